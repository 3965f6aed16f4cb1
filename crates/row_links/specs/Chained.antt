-- Marked places, chained by their marks.
use Rattle.std.specs.Prelude.{◌≡◌, ℕ, ◌≤◌, List, [], ◌∷◌, ◌++◌, Option, cond, length, nat_eq}
use Rattle.ss_text.specs.Texts.{Row}
use Rattle.indexmap.specs.IndexMap.{IndexMap, get, spare}
use Rattle.row_links.specs.declared.link.Ends.{Ends}
use Rattle.row_links.specs.declared.chain.Chain.{Chain}
use Rattle.row_links.specs.Links.{IsChain}

-- rows with the places at which they stand
abbrev pub Placed : Type 0
Placed = List (ℕ × Row)

-- the places of a mark, in order
abbrev pub places_of : ℕ → List (ℕ × ℕ) → List ℕ
places_of mark [] = []
places_of mark (e ∷ es) = cond (nat_eq e.1 mark) (e.0 ∷ places_of mark es) (places_of mark es)

-- all places, in order
abbrev pub places : {X : Type 0} → List (ℕ × X) → List ℕ
places [] = []
places (e ∷ es) = e.0 ∷ places es

-- for each mark the places that have it are chained in their order
abbrev pub IsChained : Chain → List (ℕ × ℕ) → Type 0
IsChained c marked = (mark : ℕ) → IsChain c.links.items mark (places_of mark marked) (get nat_eq c.ends mark)

-- only the ends of this mark change
abbrev pub SetsEnds : {S : Type 0} → IndexMap ℕ Ends S → IndexMap ℕ Ends S → ℕ → Option Ends → Type 0
SetsEnds old new mark ends = (q : ℕ) → get nat_eq new q ≡ cond (nat_eq mark q) ends (get nat_eq old q)

-- places below this number can be chained, and so many new marks found
pub record HasRoom (c : Chain) (below marks : ℕ) : Type 0 where
  pub links : below ≤ length c.links.items
  pub ends : marks ≤ spare c.ends

-- more links follow
abbrev pub IsLonger : {X : Type 0} → List X → List X → Type 0
IsLonger {X} old new = (rest : List X) × (new ≡ old ++ rest)
