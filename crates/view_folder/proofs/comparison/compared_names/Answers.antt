use Rattle.ss_text.proofs.KeyLemmas.{text_order}
use Rattle.view_folder.proofs.comparison.compared_names.Goals as goal

pub make_ascending-requires : goal.make_ascending-requires
make_ascending-requires c = text_order.same
