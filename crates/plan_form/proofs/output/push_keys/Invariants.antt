use Rattle.std.proofs.Common.{◌≡◌, ◌++◌, take, map}
use Rattle.view_meaning.specs.Meaning.{given}
use Rattle.plan_form.specs.Cells.{text_in}
use Rattle.plan_form.proofs.output.push_keys.Given as goal

abbrev pub invariant-loop-cell : goal.invariant-loop-cell
invariant-loop-cell l = l.texts.items ≡ l.fn.texts.items ++ map (λ c. given (text_in l.row c)) (take l.cell-index l.cells)
