use Rattle.std.proofs.Common.{◌∙◌, sym}
use Rattle.flow_law.proofs.LabelLemmas.{table_removed, table_removed_in_order}
use Rattle.flow_law.proofs.tables.Tables.remove.Goals as goal

pub invariant_of-self : goal.invariant_of-self
invariant_of-self c = rw c.remove.ensures.items (table_removed_in_order c.self.inside.tables.items c.in-Ok.place c.self.invariant)

pub returns : goal.returns
returns c =
    let there = rw (← c.self.view_is) at c.in-Ok.ensures.found in
    rw (← c.self.view_is) (c.remove.ensures.items ∙ sym (table_removed c.self.inside.tables.items c.args.label.now c.in-Ok.place c.self.invariant there))
