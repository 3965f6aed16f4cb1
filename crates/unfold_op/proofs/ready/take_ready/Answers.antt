use Rattle.unfold_op.proofs.SameKeptLemmas.{can_move_same, present_same}
use Rattle.unfold_op.proofs.ready.take_ready.Goals as goal

pub made_ready-requires-clause-moves : goal.made_ready-requires-clause-moves
made_ready-requires-clause-moves c = can_move_same c.args.counts.now c.room.new.counts c.args.nets c.room.ensures.same c.requires.moves

pub made_ready-requires-clause-ascend : goal.made_ready-requires-clause-ascend
made_ready-requires-clause-ascend c = present_same c.args.counts.now c.room.new.counts c.args.nets c.room.ensures.same c.requires.ascend
