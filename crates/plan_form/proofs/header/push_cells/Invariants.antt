use Rattle.std.proofs.Common.{◌≡◌, ◌++◌, take, map}
use Rattle.plan_form.specs.Headers.{cell_under}
use Rattle.plan_form.proofs.header.push_cells.Given as goal

abbrev pub invariant-loop-name : goal.invariant-loop-name
invariant-loop-name l = l.terms.items ≡ l.fn.terms.items ++ map (cell_under l.declaration) (take l.name-index l.name-items)
