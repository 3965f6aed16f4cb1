use Rattle.std.proofs.Common.{◌≡◌, drop, ◌≤◌, Some}
use Rattle.outside.specs.Counts.{risen}
use Rattle.outside.specs.Tree.{Tree}
use Rattle.outside.specs.Effects.{stored_of}
use Rattle.outside.specs.Performing.{Performing}
use Rattle.view_folder.specs.Files.{Apart, AreThere}
use Rattle.view_folder.specs.Sync.{removed}
use Rattle.view_folder.proofs.OpeningLemmas.{IsRemoving}
use Rattle.view_folder.proofs.opening.remove_files.Given as goal

abbrev pub invariant-loop-name : goal.invariant-loop-name
invariant-loop-name g l =
    let state = g.F.Folders.state in
    record {
      performing : Performing (removed l.folder l.names) (removed l.folder (drop l.name-index l.names)) (state l.fn.store) (state l.store);
      removing : (t : Tree) → (state l.fn.store).tree ≡ Some t → Apart l.names → AreThere l.folder l.names t → IsRemoving l.folder l.names l.name-index l.count (stored_of (state l.store).tree (state l.store).writes);
      counted : (state l.store).writes ≡ risen (state l.fn.store).writes l.count;
      few : l.count ≤ l.name-index;
    }
