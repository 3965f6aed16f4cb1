-- What is saved behind changes is loaded again.
use Rattle.std.proofs.Common.{List, [], ◌∷◌, refl}
use Rattle.schema_model.specs.declared.change.Change.{Change}
use Rattle.view_session.specs.Session.{SessionState, opened, moved}
use Rattle.source_law.specs.Counted.{tree_after}
use Rattle.source_law.specs.Law.{AreAccepted, moved_by, SavedSourcesHold}
use Rattle.source_law.specs.Synced.{Synced, unsaved, synced, saving}
use Rattle.source_law.proofs.LoadedLemmas.{sound_loaded}
use Rattle.source_law.proofs.SavingLemmas.{Pending, pending_first, pending_change, kept_first, kept_synced, sources_hold}

pending_all : (s : Synced) (n : SessionState) (gs : List Change) → AreAccepted n gs → Pending s n → Pending s (moved_by n gs)
pending_all s n [] h p = p
pending_all s n (g ∷ gs) h p = pending_all s (moved n g) gs h.2 (pending_change s n g h.0 h.1 p)

pub saved_hold : SavedSourcesHold
saved_hold t c q gs first whole accepted =
    let n : SessionState = moved_by (opened q c) gs in
    let y : Synced = unsaved c in
    let pending : Pending y n = pending_all y (opened q c) gs accepted (pending_first y (opened q c) (sound_loaded t c first) refl refl) in
    sources_hold t c first whole (synced n y) (tree_after (saving n) t) (kept_synced t c first whole y t n (kept_first t c whole first) pending)
