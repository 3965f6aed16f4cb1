use Rattle.std.proofs.Common.{◌∙◌}
use Rattle.view_folder.proofs.OpeningLemmas.{named_more}
use Rattle.view_folder.proofs.opening.names_of.Goals as goal

pub loop-file-preserved : goal.loop-file-preserved
loop-file-preserved c = λ q.
    c.in_ok-insert.ensures.updates.0 (record { ref_ptr = c.args.files.ref_ptr; now = q }) ∙ named_more c.args.files.now c.loop-file.file-index c.file-item.result q _ c.loop-file-test.true c.file-item.is (c.loop-file.invariant q)
