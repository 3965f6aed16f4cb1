use Rattle.std.proofs.Common.{◌∙◌, ◌∷◌, [], sym, ap, arith}
use Rattle.std.specs.BTreeMap.{is_at}
use Rattle.std.specs.Map.{lookup}
use Rattle.std.specs.Option.{option_copied, option_or}
use Rattle.ss_text.specs.Texts.{text_cmp}
use Rattle.view_folder.specs.Files.{bytes_in}
use Rattle.view_folder.proofs.ComparisonLemmas.{meant_more}
use Rattle.view_folder.proofs.comparison.meant_bytes.Goals as goal

pub loop-file-init : goal.loop-file-init
loop-file-init c = λ q. ap (λ es. option_copied (lookup (is_at (text_cmp q)) es)) c.new-meant.ensures.empty

pub loop-file-preserved : goal.loop-file-preserved
loop-file-preserved c = λ q.
    c.in_ok-add_first.ensures q ∙ ap (λ o. option_or o (bytes_in (c.file-item.result ∷ []) q)) (c.loop-file.invariant q)
    ∙ sym (meant_more c.args.files.now c.loop-file.file-index c.file-item.result q (omega arith) c.file-item.is)
