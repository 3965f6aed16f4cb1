use Rattle.std.proofs.Common.{◌≡◌, drop, map}
use Rattle.view_meaning.specs.Terms.{are_defined}
use Rattle.plan_form.specs.Tests.{at_row, cell_term}
use Rattle.plan_form.proofs.output.are_there.Given as goal

-- what is left decides
abbrev pub invariant-loop-cell : goal.invariant-loop-cell
invariant-loop-cell l = are_defined (at_row l.row) (map cell_term l.cells) ≡ are_defined (at_row l.row) (map cell_term (drop l.cell-index l.cells))
