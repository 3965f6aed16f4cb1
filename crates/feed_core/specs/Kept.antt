-- How what was handled is kept: in one list, and for each source the places of its arrivals.
use Rattle.std.specs.Prelude.{◌≡◌, ◌<◌, ℕ, suc, List, [], ◌∷◌, Some, Vec, if◌then◌else◌}
use Rattle.std.specs.Option.{option_map_or}
use Rattle.std.specs.Vec.{vec_len, vec_capacity}
use Rattle.std.specs.declared.alloc.Global.{Global}
use Rattle.indexmap.specs.IndexMap.{IndexMap, get}
use Rattle.ss_text.specs.Texts.{Text, text_eq}
use Rattle.feed_core.specs.Handled.{Handled}
use Rattle.feed_core.specs.Arrivals.{arrivals_of}
use Rattle.feed_core.specs.Numbered.{AreNumbered}

-- the places of a source's arrivals, where the first of all is at this one
abbrev pub places_from : ℕ → Text → List Handled → List ℕ
places_from place source [] = []
places_from place source (h ∷ hs) =
    if text_eq source h.arrival.source then place ∷ places_from (suc place) source hs else places_from (suc place) source hs

-- the places that are kept for a source
abbrev pub places_in : {S : Type 0} → IndexMap Text (Vec ℕ Global) S → Text → List ℕ
places_in m source = option_map_or (λ (v : Vec ℕ Global). v.items) (get text_eq m source) []

pub record IsKept {S : Type 0} (hs : List Handled) (m : IndexMap Text (Vec ℕ Global) S) : Type 0 where
  pub numbered : AreNumbered (arrivals_of hs)
  pub places : (source : Text) → places_in m source ≡ places_from 0 source hs

-- there is room for one more arrival of a source
pub record HasRoom {S : Type 0} (m : IndexMap Text (Vec ℕ Global) S) (source : Text) : Type 0 where
  pub list : Vec ℕ Global
  pub is : get text_eq m source ≡ Some list
  pub room : vec_len list < vec_capacity list
