use Rattle.std.proofs.Common.{◌≡◌, take, map}
use Rattle.plan_form.specs.Tests.{cell_for}
use Rattle.plan_form.proofs.output.cells_of.Given as goal

abbrev pub invariant-loop-term : goal.invariant-loop-term
invariant-loop-term l = l.cells.items ≡ map (cell_for l.decls l.header) (take l.term-index l.terms)
