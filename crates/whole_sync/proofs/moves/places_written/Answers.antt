use Rattle.std.proofs.Common.{arith, sym}
use Rattle.whole_sync.proofs.moves.places_written.Goals as goal

pub loop-edit-preserved : goal.loop-edit-preserved
loop-edit-preserved c = c.in_ok-add_place.ensures.ok c.args.edits.now c.loop-edit.invariant (c.loop-edit.edit-index, omega arith, sym c.edit-item.is)
