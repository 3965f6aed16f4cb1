use Rattle.std.proofs.Common.{◌≡◌, take, map}
use Rattle.std.specs.List.{flat_map}
use Rattle.fold_op.specs.Flat.{entries}
use Rattle.fold_op.proofs.fold.fold_rows.Given as goal

abbrev pub invariant-loop-row : goal.invariant-loop-row
invariant-loop-row l = l.flat.items ≡ flat_map (entries l.places.items l.attributes) (map (λ r. r.now) (take l.row-index l.rows))
