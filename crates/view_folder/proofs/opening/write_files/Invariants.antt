use Rattle.std.proofs.Common.{◌≡◌, drop}
use Rattle.outside.specs.Counts.{risen}
use Rattle.outside.specs.Performing.{Performing}
use Rattle.view_folder.specs.Sync.{written}
use Rattle.view_folder.proofs.opening.write_files.Given as goal

abbrev pub invariant-loop-file : goal.invariant-loop-file
invariant-loop-file g l =
    let state = g.F.Folders.state in
    record {
      performing : Performing (written l.folder l.files) (written l.folder (drop l.file-index l.files)) (state l.fn.store) (state l.store);
      counted : (state l.store).writes ≡ risen (state l.fn.store).writes l.file-index;
    }
