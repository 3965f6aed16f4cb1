use Rattle.std.proofs.Common.{◌≡◌, ◌≤◌, Some, map, drop}
use Rattle.outside.specs.Counts.{risen}
use Rattle.outside.specs.Effects.{Stored, stored_of}
use Rattle.outside.specs.Performing.{Performing}
use Rattle.view_folder.specs.Sync.{label_synced}
use Rattle.view_folder.proofs.LaterLemmas.{IsCounting}
use Rattle.view_folder.proofs.later.sync_labels.Given as goal

abbrev pub invariant-loop-label : goal.invariant-loop-label
invariant-loop-label g l =
    let state = g.F.Folders.state in
    record {
      performing : Performing (map (label_synced l.folder l.shape (g.T.TableTexts.tables l.tables)) l.labels) (map (label_synced l.folder l.shape (g.T.TableTexts.tables l.tables)) (drop l.label-index l.labels)) (state l.fn.store) (state l.store);
      counting : (s : Stored) → stored_of (state l.fn.store).tree (state l.fn.store).writes ≡ Some s → IsCounting l.folder l.shape (g.T.TableTexts.tables l.tables) l.labels s l.label-index l.count (stored_of (state l.store).tree (state l.store).writes);
      counted : (state l.store).writes ≡ risen (state l.fn.store).writes l.count;
      few : l.count ≤ l.label-index;
    }
