-- All chains of some live rows.
use Rattle.std.specs.Prelude.{◌≡◌, ℕ, ◌+◌, ◌≤◌, List, [], ◌∷◌, ◌++◌, Some, length, slice_get, Vec}
use Rattle.std.specs.Global.{Global}
use Rattle.ss_text.specs.Texts.{Row}
use Rattle.ss_text.specs.declared.seed.Seed.{Seed}
use Rattle.row_links.specs.declared.chain.Chain.{Chain}
use Rattle.row_links.specs.declared.chains.Chains.{Chains}
use Rattle.row_links.specs.Links.{IsChain, IsAbsent, IsOnce}
use Rattle.row_links.specs.Chained.{Placed, IsChained, HasRoom, places}
use Rattle.row_links.specs.Parts.{whole, cells_at}
use Rattle.row_links.specs.Marks.{mark_of}

-- these rows' places, each with its row's mark
abbrev pub marked : (Row → ℕ) → Placed → List (ℕ × ℕ)
marked f [] = []
marked f (e ∷ es) = (e.0, f e.1) ∷ marked f es

-- the mark of a row's cells, and of those at a key's positions
abbrev pub by_row : Seed → Row → ℕ
by_row seed row = mark_of seed (whole row)

abbrev pub by_cells : Seed → List ℕ → Row → ℕ
by_cells seed key row = mark_of seed (cells_at key row)

abbrev pub key_lists : List (Vec ℕ Global) → List (List ℕ)
key_lists [] = []
key_lists (k ∷ ks) = k.items ∷ key_lists ks

-- the live rows are chained in their order, by equal rows, and by the cells at each key's positions
pub record AllChained (c : Chains) (keys : List (List ℕ)) (live : Placed) : Type 0 where
  pub order : IsChain c.order.items 0 (places live) c.ends
  pub same : IsChained c.same (marked (by_row c.seed) live)
  pub keyed : (i : ℕ) (chain : Chain) (key : List ℕ) → slice_get c.keyed.items i ≡ Some chain → slice_get keys i ≡ Some key → IsChained chain (marked (by_cells c.seed key) live)

-- places below this number can be chained, and so many more rows
pub record AllHaveRoom (c : Chains) (below more : ℕ) : Type 0 where
  pub order : below ≤ length c.order.items
  pub same : HasRoom c.same below more
  pub keyed : (i : ℕ) (chain : Chain) → slice_get c.keyed.items i ≡ Some chain → HasRoom chain below more

-- each of the new ones comes from the old one with its number
pub record Each (rel : ℕ → Chain → Chain → Type 0) (old new : List Chain) : Type 0 where
  pub len : length new ≡ length old
  pub each : (i : ℕ) (now : Chain) → slice_get new i ≡ Some now → (was : Chain) × (slice_get old i ≡ Some was) × rel i was now

-- a row was added at a place to the chain of a key
pub record Adds (seed : Seed) (key : List ℕ) (place : ℕ) (row : Row) (was now : Chain) : Type 0 where
  pub chained : (marks : List (ℕ × ℕ)) → IsChained was marks → IsAbsent place (places marks) → IsOnce (places marks) → IsChained now (marks ++ (place, by_cells seed key row) ∷ [])
  pub room : (a b : ℕ) → HasRoom was a (b + 1) → HasRoom now a b

abbrev pub AddsByKey : Seed → List (List ℕ) → ℕ → Row → ℕ → Chain → Chain → Type 0
AddsByKey seed keys place row i was now = (key : List ℕ) × (slice_get keys i ≡ Some key) × Adds seed key place row was now

-- a place was taken out of a chain
pub record TakesFrom (place i : ℕ) (was now : Chain) : Type 0 where
  pub chained : (mark : ℕ) (earlier later : List (ℕ × ℕ)) → IsChained was (earlier ++ (place, mark) ∷ later) → IsOnce (places (earlier ++ (place, mark) ∷ later)) → IsChained now (earlier ++ later)
  pub room : (a b : ℕ) → HasRoom was a b → HasRoom now a b

-- a chain stays
abbrev pub Stays : ℕ → Chain → Chain → Type 0
Stays i was now = (marks : List (ℕ × ℕ)) → IsChained was marks → IsChained now marks
