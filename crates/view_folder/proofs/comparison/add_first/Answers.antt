use Rattle.std.proofs.Common.{refl, sym}
use Rattle.std.specs.BTreeMap.{get}
use Rattle.ss_text.specs.Texts.{text_cmp}
use Rattle.view_folder.proofs.ComparisonLemmas.{first_meant}
use Rattle.view_folder.proofs.comparison.add_first.Goals as goal

pub returns : goal.returns
returns c = first_meant (get text_cmp c.args.meant.now) c.args.file.now (get text_cmp c.insert.new.self) _ refl (sym c.if-contains_key.ensures) (λ q. rw c.in_ok-copy.ensures at (c.in_ok-insert.ensures.updates.0 q))
