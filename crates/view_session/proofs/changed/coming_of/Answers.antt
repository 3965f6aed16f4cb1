use Rattle.ss_text.proofs.KeyLemmas.{text_order}
use Rattle.schema_model.proofs.PairOrder.{pair_same}
use Rattle.view_session.proofs.changed.coming_of.Goals as goal

pub make_ascending-requires : goal.make_ascending-requires
make_ascending-requires c = pair_same

pub make_ascending-requires-2 : goal.make_ascending-requires-2
make_ascending-requires-2 c = text_order.same
