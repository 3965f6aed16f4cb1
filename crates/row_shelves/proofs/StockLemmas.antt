-- Rows that keep their room while they come, go and change.
use Rattle.std.proofs.Common.{◌≡◌, ◌<◌, ◌≤◌, ◌∷◌, ◌++◌, [], ℕ, Bool, Vec, Global, true, false, List, sym, ◌∙◌, ap, subst, length, map, arith, cond}
use Rattle.std.specs.Prelude.{filter, if◌then◌else◌}
use Rattle.std.specs.List.{AllByRecursion}
use Rattle.std.specs.Vec.{vec_capacity}
use Rattle.std.specs.declared.cmp.Ordering.TheVariants.{Less, Equal, Greater}
use Rattle.std.specs.List.Sorted.{IsStrictlySortedBy}
use Rattle.std.proofs.lemmas.List.{map-append}
use Rattle.ss_text.specs.Texts.{Text, Row, row_cmp}
use Rattle.flow_law.specs.Tables.{key_of}
use Rattle.row_shelves.proofs.SeenLemmas.{keys_of_rows}
use Rattle.ss_text.specs.Ascending.{by_order, with_element}
use Rattle.ss_text.specs.Places.{changed_where}
use Rattle.row_shelves.specs.Stocks.{Stock, stock, stock_key, Has, HasSpace, row_of, rows_of, by_stock, changed}
use Rattle.row_shelves.specs.Blanks.{IsNewRow}

pub all_with : (P : Stock → Type 0) (r : Stock) (rs : List Stock) → P r → AllByRecursion P rs → AllByRecursion P (with_element by_stock r rs)
all_with P r [] p h = (p, tt)
all_with P r (s ∷ rs) p h =
    elim (by_stock r s) as (λ o. AllByRecursion P (by_order o (r ∷ s ∷ rs) (s ∷ rs) (s ∷ with_element by_stock r rs)))
    [ Less ↦ (p, h) | Equal ↦ h | Greater ↦ (h.0, all_with P r rs p h.1) ]

pub all_filtered : {X : Type 0} (P : X → Type 0) (p : X → Bool) (xs : List X) → AllByRecursion P xs → AllByRecursion P (filter p xs)
all_filtered P p [] h = tt
all_filtered P p (x ∷ xs) h = elim (p x) as (λ b. AllByRecursion P (cond b (x ∷ filter p xs) (filter p xs))) [ true ↦ (h.0, all_filtered P p xs h.1) | false ↦ all_filtered P p xs h.1 ]

pub room_mapped : (n : ℕ) (f : Row × Row → Row × Row) (rs : List Stock) → AllByRecursion (Has n) rs → AllByRecursion (Has n) (map (changed f) rs)
room_mapped n f [] h = tt
room_mapped n f (s ∷ rs) h = (h.0, room_mapped n f rs h.1)

pub room_changed : (n : ℕ) (p : Stock → Bool) (f : Row × Row → Row × Row) (rs : List Stock) → AllByRecursion (Has n) rs → AllByRecursion (Has n) (changed_where p (changed f) rs)
room_changed n p f [] h = tt
room_changed n p f (s ∷ rs) h = (elim (p s) as (λ b. Has n (if b then changed f s else s)) [ true ↦ h.0 | false ↦ h.0 ], room_changed n p f rs h.1)

-- a row with no less cells before and room
pub spaces : (place n : ℕ) (rs : List Stock) → AllByRecursion (λ (r : Stock). place ≤ length r.cells) rs → AllByRecursion (λ (r : Stock). length r.cells < n) rs → AllByRecursion (Has n) rs → AllByRecursion (HasSpace place) rs
spaces place n [] within short room = tt
spaces place n (s ∷ rs) within short room = (record { within = within.0; room = omega (arith, short.0, room.0) }, spaces place n rs within.1 short.1 room.1)

-- cells to come whose room grows
pub wider : (n : ℕ) (old new : Vec Text Global) → new.items ≡ old.items → vec_capacity old ≤ vec_capacity new → IsNewRow n old → IsNewRow n new
wider n old new same grows h = record { none = same ∙ h.none; room = omega (arith, h.room, grows) }

pub as_wide : (n m : ℕ) (old new : Vec Text Global) → new.items ≡ old.items → m ≤ vec_capacity new → IsNewRow n old → IsNewRow m new
as_wide n m old new same room h = record { none = same ∙ h.none; room = room }

-- the last of some, and the others
pub last_of : {X : Type 0} (P : X → Type 0) (xs : List X) (x : X) → AllByRecursion P (xs ++ x ∷ []) → P x
last_of P [] x h = h.0
last_of P (y ∷ ys) x h = last_of P ys x h.1

pub but_last : {X : Type 0} (P : X → Type 0) (xs : List X) (x : X) → AllByRecursion P (xs ++ x ∷ []) → AllByRecursion P xs
but_last P [] x h = tt
but_last P (y ∷ ys) x h = (h.0, but_last P ys x h.1)

pub has_none : (rs : List Stock) → AllByRecursion (Has 0) rs
has_none [] = tt
has_none (r ∷ rs) = (omega arith, has_none rs)

-- keys of rows with one more behind
pub pushed_keys : (rs : List Stock) (key cells : Row) (room : ℕ) → IsStrictlySortedBy row_cmp (map key_of (rows_of rs ++ (key, cells) ∷ [])) → IsStrictlySortedBy row_cmp (map stock_key (rs ++ stock key cells room ∷ []))
pushed_keys rs key cells room h =
    let r = stock key cells room in
    subst (IsStrictlySortedBy row_cmp) (sym (keys_of_rows (rs ++ r ∷ []) ∙ ap (map key_of) (map-append row_of rs (r ∷ [])))) h
