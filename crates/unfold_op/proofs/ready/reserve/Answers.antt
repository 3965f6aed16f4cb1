use Rattle.std.proofs.Common.{◌∙◌}
use Rattle.unfold_op.proofs.SameKeptLemmas.{stands_same, same_back}
use Rattle.unfold_op.proofs.CountLemmas.{can_move_all}
use Rattle.unfold_op.proofs.Clashes.{present_ascends}
use Rattle.unfold_op.proofs.Prepared.{clash_is}
use Rattle.unfold_op.proofs.ready.reserve.Goals as goal

pub take_ready-requires-clause-moves : goal.take_ready-requires-clause-moves
take_ready-requires-clause-moves c =
    can_move_all c.args.counts.now c.args.nets c.requires.0 c.requires.1 c.requires.2 c.requires.3 c.requires.4 c.requires.5

pub take_ready-requires-clause-ascend : goal.take_ready-requires-clause-ascend
take_ready-requires-clause-ascend c =
    present_ascends c.requires.0 c.args.counts.now c.args.nets (clash_is c.args.counts.now c.args.nets c.requires.0 c.requires.1 c.requires.2 c.requires.3 c.requires.4 c.requires.5 ∙ c.requires.6)

pub returns-in-Ok-clause-stands : goal.returns-in-Ok-clause-stands
returns-in-Ok-clause-stands c = λ fs h. stands_same c.args.counts.now c.take_ready.new.counts fs c.take_ready.ensures.same h

pub returns-in-Err-clause-stands : goal.returns-in-Err-clause-stands
returns-in-Err-clause-stands c = λ fs h. stands_same c.args.counts.now c.take_ready.new.counts fs c.take_ready.ensures.same h

pub returns-in-Ok-clause-only : goal.returns-in-Ok-clause-only
returns-in-Ok-clause-only c = λ fs h. stands_same c.take_ready.new.counts c.args.counts.now fs (same_back c.args.counts.now c.take_ready.new.counts c.take_ready.ensures.same) h

pub returns-in-Err-clause-only : goal.returns-in-Err-clause-only
returns-in-Err-clause-only c = λ fs h. stands_same c.take_ready.new.counts c.args.counts.now fs (same_back c.args.counts.now c.take_ready.new.counts c.take_ready.ensures.same) h
