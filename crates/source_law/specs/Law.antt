-- What is saved behind changes is loaded again.
use Rattle.std.specs.Prelude.{◌≡◌, List, [], ◌∷◌, None, Ok, IsTrue}
use Rattle.outside.specs.Tree.{Tree}
use Rattle.outside.specs.Whole.{IsWhole}
use Rattle.schema_model.specs.declared.change.Change.{Change}
use Rattle.schema_model.specs.Catalogue.{CatalogueValue}
use Rattle.schema_model.specs.Changes.{is_well_formed}
use Rattle.schema_model.specs.Refusals.{fault}
use Rattle.csv_catalog.specs.Loaded.{loaded}
use Rattle.view_def.specs.Query.{Query}
use Rattle.view_session.specs.Session.{SessionState, opened, moved}
use Rattle.source_law.specs.Counted.{tree_after}
use Rattle.source_law.specs.Synced.{unsaved, synced, saving, SourcesHold}

-- changes that are not refused, one after another
abbrev pub AreAccepted : SessionState → List Change → Type 0
AreAccepted n [] = Unit {0}
AreAccepted n (g ∷ gs) = IsTrue (is_well_formed g) × (fault n.catalogue g ≡ None) × AreAccepted (moved n g) gs

-- the session after them
abbrev pub moved_by : SessionState → List Change → SessionState
moved_by n [] = n
moved_by n (g ∷ gs) = moved_by (moved n g) gs

-- the sources of a catalogue that was loaded hold what it has become, once that is saved
abbrev pub SavedSourcesHold : Type 0
SavedSourcesHold = (t : Tree) (c : CatalogueValue) (q : Query) (gs : List Change) → loaded t ≡ Ok c → IsWhole t → AreAccepted (opened q c) gs
    → SourcesHold (synced (moved_by (opened q c) gs) (unsaved c)) t (tree_after (saving (moved_by (opened q c) gs)) t)
