-- Moves that are grouped by the numbers of their key cells.
use Rattle.std.specs.Prelude.{◌≡◌, ℕ, Bool, List, [], ◌∷◌, ◌++◌, cond, nat_eq, filter, map, Option, None, Some, Vec}
use Rattle.std.specs.Global.{Global}
use denote.Ref.{Bor}
use Rattle.indexmap.specs.IndexMap.{IndexMap, get}
use Rattle.ss_text.specs.declared.seed.Seed.{Seed}
use Rattle.row_links.specs.Parts.{cells_at}
use Rattle.row_links.specs.Marks.{mark_of}
use Rattle.operator_law.specs.declared.delta.Signed.{Signed}

-- moves that are borrowed
abbrev pub moves_now : List (Bor Signed) → List Signed
moves_now ms = map (λ (m : Bor Signed). m.now) ms

abbrev pub group_of : Option (Vec (Bor Signed) Global) → List Signed
group_of None = []
group_of (Some group) = moves_now group.items

-- the moves of a number
abbrev pub group_in : {S : Type 0} → IndexMap ℕ (Vec (Bor Signed) Global) S → ℕ → List Signed
group_in groups number = group_of (get nat_eq groups number)

-- whether a move's key cells have this number
abbrev pub of_mark : Seed → List ℕ → ℕ → Signed → Bool
of_mark seed key number m = nat_eq (mark_of seed (cells_at key m.row)) number

-- a move was added as the last of its number
abbrev pub AddsTo : {S : Type 0} → ℕ → Signed → IndexMap ℕ (Vec (Bor Signed) Global) S → IndexMap ℕ (Vec (Bor Signed) Global) S → Type 0
AddsTo number m old new = (k : ℕ) → group_in new k ≡ cond (nat_eq number k) (group_in old k ++ m ∷ []) (group_in old k)

-- these are the groups of the moves
abbrev pub AreGroups : {S : Type 0} → Seed → IndexMap ℕ (Vec (Bor Signed) Global) S → List ℕ → List Signed → Type 0
AreGroups seed groups key ms = (k : ℕ) → group_in groups k ≡ filter (of_mark seed key k) ms
