-- What the fields of linked rows are to each other.
use Rattle.std.specs.Prelude.{◌≡◌, ℕ, zero, suc, ◌<◌, List, [], ◌∷◌, ◌⊎◌, Option, None, Some, Vec, length, reverse}
use Rattle.std.specs.Global.{Global}
use Rattle.ss_text.specs.Texts.{Row}
use Rattle.slab.specs.Slab.{Slab, get, slab_len, HasRoomFor}
use Rattle.row_links.specs.declared.link.Link.{Link}
use Rattle.row_links.specs.declared.chains.Chains.{Chains}
use Rattle.row_links.specs.Links.{IsOnce, after_at, first_end}
use Rattle.row_links.specs.Chained.{Placed, places}
use Rattle.row_links.specs.AllChains.{AllChained, AllHaveRoom, key_lists}
use Rattle.row_links.specs.Live.{LinkedRows, AreStored}

-- at most so many places along the links
abbrev pub walk : ℕ → List Link → Option ℕ → List ℕ
walk zero links at = []
walk (suc n) links None = []
walk (suc n) links (Some p) = p ∷ walk n links (after_at links p)

-- the row at a place
abbrev pub row_of : Slab Row → ℕ → Row
row_of rows p = elim (get rows p) as (λ _. Row) [ None ↦ [] | Some row ↦ row ]

-- the rows at these places
abbrev pub rows_at : Slab Row → List ℕ → Placed
rows_at rows [] = []
rows_at rows (p ∷ ps) = (p, row_of rows p) ∷ rows_at rows ps

-- the rows along the order of adding
abbrev pub live_of : Slab Row → Chains → Placed
live_of rows c = rows_at rows (walk (slab_len rows) c.order.items (first_end c.ends))

abbrev pub seen : List (Vec ℕ Global) → Slab Row → Chains → List Row → LinkedRows
seen keys rows c waiting = record { keys = key_lists keys; live = live_of rows c; waiting = reverse waiting }

-- so many more rows can be added without memory
pub record HasRoomToAdd (keys : List (List ℕ)) (rows : Slab Row) (c : Chains) (more : ℕ) : Type 0 where
  pub slots : HasRoomFor rows more
  pub chains : AllHaveRoom c rows.capacity more
  pub keyed : length c.keyed.items ≡ length keys

-- these are the live rows: stored at distinct places, and chained
pub record IsLinked (keys : List (List ℕ)) (rows : Slab Row) (c : Chains) (waiting : List Row) (live : Placed) : Type 0 where
  pub stored : AreStored rows live
  pub count : slab_len rows ≡ length live
  pub once : IsOnce (places live)
  pub chained : AllChained c keys live
  pub keyed : (length c.keyed.items ≡ length keys) ⊎ ((length c.keyed.items < length keys) × (live ≡ []))
  pub room : 0 < length waiting → HasRoomToAdd keys rows c (length waiting)
