-- What was left of a store is between what is there before a stage and what is there behind it.
use Rattle.std.proofs.Common.{◌≡◌, ℕ, List, [], ◌∷◌, Some, refl, ap}
use Rattle.outside.specs.Tree.{Tree, files_of}
use Rattle.outside.specs.Effects.{Effect, Print, Stored, Contents, Partly}
use Rattle.schema_model.specs.Catalogue.{CatalogueValue}
use Rattle.source_law.specs.Counted.{tree_after}
use Rattle.view_stages.specs.Stages.{Accepted, files_of_view}
use Rattle.view_stages.specs.Opening.{opening_effects}
use Rattle.view_stages.specs.Opened.{folder_of}
use Rattle.view_stages.specs.Places.{Exempt, CsvFiles}
use Rattle.view_stages.specs.Between.{StopsIn}
use Rattle.view_stages.proofs.StageLemmas.{are_view_files}
use Rattle.view_stages.proofs.BetweenLemmas.{LeftBetween}
use Rattle.view_stages.proofs.SyncLemmas.{Stage, print_stage, opening_stage}

-- a store that one of these stages left, which began with this tree
pub record Stopped (exempt : List Exempt) (stages : List (List Effect)) (t : Tree) (c : Contents) : Type 0 where
  pub stored : Stored
  pub told : c.stored ≡ Some stored
  pub stops : StopsIn exempt stages t stored.tree

module _ (exempt : List Exempt) where
  pub in_first : (es : List Effect) (more : List (List Effect)) (t : Tree) (c : Contents) → LeftBetween exempt es t (tree_after es t) c → Stopped exempt (es ∷ more) t c
  in_first es more t c l = record {
    stored = l.stored;
    told = l.told;
    stops = record { done = []; under_way = es; later = more; are = refl; broken = l.broken; by = l.by; between = l.between; at_once = l.at_once };
  }

  pub in_later : (es : List Effect) (more : List (List Effect)) (t : Tree) (c : Contents) → Stopped exempt more (tree_after es t) c → Stopped exempt (es ∷ more) t c
  in_later es more t c h = record {
    stored = h.stored;
    told = h.told;
    stops = record {
      done = es ∷ h.stops.done;
      under_way = h.stops.under_way;
      later = h.stops.later;
      are = ap (λ (stages : List (List Effect)). es ∷ stages) h.stops.are;
      broken = h.stops.broken;
      by = h.stops.by;
      between = h.stops.between;
      at_once = h.stops.at_once;
    };
  }

  -- what one stage left
  module _ (s : Stored) (old new : Contents) (told : old.stored ≡ Some s) where
    abbrev t : Tree
    t = s.tree

    abbrev One : List Effect → Type 0
    One es = Partly es old new → Stopped exempt (es ∷ []) t new

    pub one_stage : (es : List Effect) → Stage exempt es → One es
    one_stage es stage h = in_first es [] t new (stage s old new told h)

    pub printed : (bytes : List ℕ) → One (Print bytes ∷ [])
    printed bytes = one_stage (Print bytes ∷ []) (print_stage exempt bytes)

-- an opening is a stage
pub opening_stops : (t : Tree) (a : Accepted) (c : CatalogueValue) → Stage (CsvFiles (folder_of a) ∷ []) (opening_effects (folder_of a) (files_of_view c a.query) (files_of t (folder_of a)))
opening_stops t a c = opening_stage (folder_of a) (files_of_view c a.query) (files_of t (folder_of a)) (are_view_files c a.query)
