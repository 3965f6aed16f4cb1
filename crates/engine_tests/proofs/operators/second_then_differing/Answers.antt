use Rattle.std.proofs.Common.{length, slice_index_or}
use Rattle.engine_tests.proofs.OperatorPlaces.{two_within, two_cells}
use Rattle.engine_tests.proofs.operators.second_then_differing.Goals as goal

pub prepare-requires : goal.prepare-requires
prepare-requires g c = (
  λ k d h. two_within c.in_ok-places.places.items (length (slice_index_or c.in_ok-change.change k d).row) c.in_ok-places.ensures (c.in_ok-change.ensures k d h),
  λ m e. two_cells c.in_ok-places.places.items c.in_ok-change.change m c.in_ok-places.ensures e,
)
