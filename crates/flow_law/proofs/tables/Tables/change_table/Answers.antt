use Rattle.std.proofs.Common.{sym, ◌∙◌}
use Rattle.std.proofs.lemmas.Bool.{false≢true}
use Rattle.flow_law.proofs.LabelLemmas.{fits_missing, fits_read, line_made, line_made_in_order}
use Rattle.flow_law.proofs.tables.Tables.change_table.Goals as goal

pub unreachable-requires : goal.unreachable-requires
unreachable-requires c = false≢true (sym (fits_missing c.args.self.now c.args.line.now c.in_default.field-0 (rw c.label.ensures at c.in_default.ensures.absent)) ∙ c.requires)

pub change-requires : goal.change-requires
change-requires c =
    let there = rw (← c.self.view_is, c.label.ensures) at c.in-Ok.ensures.found in
    let fits = rw (← c.self.view_is) at c.requires in
    fits_read c.self.inside.tables.items c.args.line.now c.in-Ok.place c.self.invariant there fits c.index_mut.result.now c.index_mut.ensures.value

pub invariant_of-self-2 : goal.invariant_of-self-2
invariant_of-self-2 c =
    let there = rw (← c.self.view_is, c.label.ensures) at c.in-Ok.ensures.found in
    let fits = rw (← c.self.view_is) at c.requires in
    line_made_in_order c.self.inside.tables.items c.args.line.now c.in-Ok.place c.self.invariant there fits c.index_mut.result.now c.index_mut.ensures.value c.change.new.self c.in_ok-change.ensures.ok

pub returns-clause-ok : goal.returns-clause-ok
returns-clause-ok c =
    let there = rw (← c.self.view_is, c.label.ensures) at c.in-Ok.ensures.found in
    let fits = rw (← c.self.view_is) at c.requires in
    rw (← c.self.view_is)
    (line_made c.self.inside.tables.items c.args.line.now c.in-Ok.place c.self.invariant there fits c.index_mut.result.now c.index_mut.ensures.value c.change.new.self c.in_ok-change.ensures.ok)
