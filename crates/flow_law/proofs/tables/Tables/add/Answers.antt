use Rattle.std.proofs.Common.{sym}
use Rattle.flow_law.proofs.LabelLemmas.{table_placed, table_placed_in_order}
use Rattle.flow_law.proofs.tables.Tables.add.Goals as goal

pub invariant_of-self-2 : goal.invariant_of-self-2
invariant_of-self-2 c =
    let there = rw (← c.self.view_is) at c.in-Err.ensures.absent in
    rw (c.in_ok-insert.ensures.items, c.in_ok-label.ensures, c.new-table.ensures) (table_placed_in_order c.self.inside.tables.items c.args.label.now c.in-Err.place c.self.invariant there)

pub returns-clause-ok : goal.returns-clause-ok
returns-clause-ok c =
    let there = rw (← c.self.view_is) at c.in-Err.ensures.absent in
    rw (← c.self.view_is, c.in_ok-insert.ensures.items, c.in_ok-label.ensures, c.new-table.ensures) (sym (table_placed c.self.inside.tables.items c.args.label.now c.in-Err.place there))
