use Rattle.std.proofs.Common.{◌≡◌, ◌++◌, take}
use Rattle.unite_op.proofs.behind.behind.Given as goal

abbrev pub invariant-loop-name : goal.invariant-loop-name
invariant-loop-name l = l.cells.items ≡ take l.name-index l.name-items

abbrev pub invariant-loop-cell : goal.invariant-loop-cell
invariant-loop-cell l = l.cells.items ≡ l.names ++ take l.cell-index l.cell-items
