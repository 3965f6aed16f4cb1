use Rattle.std.proofs.Common.{◌≡◌, take}
use Rattle.std.specs.List.{filter_map}
use Rattle.plan_law.specs.Columns.{alias_cell}
use Rattle.plan_form.proofs.terms.alias_cells.Given as goal

abbrev pub invariant-loop-range : goal.invariant-loop-range
invariant-loop-range l = l.terms.items ≡ filter_map alias_cell (take l.range-index l.decls)
