use Rattle.std.proofs.Common.{arith}
use Rattle.outside.specs.Effects.{Write}
use Rattle.outside.proofs.EffectLemmas.{performing_more}
use Rattle.view_folder.specs.declared.file.File.{File}
use Rattle.view_folder.proofs.opening.write_files.Goals as goal

pub loop-file-preserved : goal.loop-file-preserved
loop-file-preserved g c =
    let so_far = c.loop-file.invariant in
    let did = c.in_ok-write_file.ensures in
    record {
      performing = performing_more (λ (f : File). Write c.args.folder.now f.name f.bytes) _ c.loop-file.file-index c.file-item.result _ _ _ _ _ (omega arith) c.file-item.is so_far.performing (rw c.as_slice.ensures at did.performs);
      counted = omega (arith, so_far.counted, did.counted);
    }
