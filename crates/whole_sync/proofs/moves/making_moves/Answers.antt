use Rattle.std.proofs.Common.{◌++◌, List, arith}
use Rattle.outside.specs.declared.edit.Edit.{Edit}
use Rattle.whole_sync.specs.Protocol.{making}
use Rattle.whole_sync.proofs.DoingLemmas.{one_more}
use Rattle.whole_sync.proofs.ListingLemmas.{named_at}
use Rattle.whole_sync.proofs.moves.making_moves.Goals as goal

pub loop-edit-preserved : goal.loop-edit-preserved
loop-edit-preserved c = record {
  so_far = one_more (λ (es : List Edit). c.loop-edit.moves.items ++ making es c.loop-edit.names.now) (λ (es : List Edit). c.push_making.new.moves.items ++ making es c.in_ok-names.names.now) c.args.edits.now c.loop-edit.edit-index c.edit-item.result _ (omega arith) c.edit-item.is c.loop-edit.invariant.so_far c.in_ok-names.ensures.ok;
  named = λ named. c.in_ok-names.ensures.named _ (named_at c.args.edits.now c.loop-edit.edit-index c.edit-item.result _ (omega arith) c.edit-item.is (c.loop-edit.invariant.named named));
}
