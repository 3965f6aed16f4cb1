use Rattle.std.proofs.Common.{◌≡◌, map, take}
use Rattle.unfold_op.specs.Stored.{new_cell}
use Rattle.unfold_op.proofs.ready.new_cells.Given as goal

abbrev pub invariant-loop-place : goal.invariant-loop-place
invariant-loop-place l = l.cells.items ≡ map (λ p. (p, new_cell l.counts l.nets p)) (take l.place-index l.places)
