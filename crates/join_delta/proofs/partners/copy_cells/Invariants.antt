use Rattle.std.proofs.Common.{◌≡◌, ◌++◌, take}
use Rattle.join_delta.proofs.partners.copy_cells.Given as goal

abbrev pub invariant-loop-cell : goal.invariant-loop-cell
invariant-loop-cell l = l.into.items ≡ l.initial.into.items ++ take l.cell-index l.from
