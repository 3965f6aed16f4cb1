use Rattle.std.proofs.Common.{◌≡◌, take, map}
use Rattle.fold_op.specs.Cells.{place_of}
use Rattle.schema_delta.proofs.tuples.places_of.Given as goal

abbrev pub invariant-loop-name : goal.invariant-loop-name
invariant-loop-name l = l.places.items ≡ map (place_of l.attributes) (take l.name-index l.name-items)
