-- Shelves that are seen as others.
use Rattle.std.proofs.Common.{◌≡◌, ◌<◌, ◌∷◌, ◌++◌, [], ℕ, Vec, List, refl, sym, ◌∙◌, ap, subst, zero, suc, length, map, take, get_or, set, arith, append-nil, append_assoc, ◌+◌, Global, Result, Ok, Err, IfOk, IfErr, is_ok}
use Rattle.ss_text.proofs.KeyLemmas.{row_order, has_any, lacks_any, lacks_for}
use Rattle.std.proofs.lemmas.List.{length-map, get_or-map, take-map}
use Rattle.std.specs.List.{AllByRecursion}
use Rattle.std.specs.List.Sorted.{IsStrictlySortedBy}
use Rattle.ss_text.specs.Texts.{Row, row_cmp}
use Rattle.ss_text.specs.Keys.{IsPlaceOf, IsPlaceFor}
use Rattle.row_shelves.specs.Stocks.{Stock, stock_key, has_key}
use Rattle.row_shelves.specs.Shelves.{joined, all_rows, place_of, AreShelves}
use Rattle.row_shelves.specs.declared.spot.Spot.{Spot}

module _ {S A : Type 0} (rows : S → List A) where
  joined_seen : (ss : List S) → joined rows ss ≡ joined (λ xs. xs) (map rows ss)
  joined_seen [] = refl
  joined_seen (s ∷ ss) = ap (λ xs. rows s ++ xs) (joined_seen ss)

  pub same_joined : (ss ts : List S) → map rows ss ≡ map rows ts → joined rows ss ≡ joined rows ts
  same_joined ss ts e = joined_seen ss ∙ ap (joined (λ xs. xs)) e ∙ sym (joined_seen ts)

  pub same_taken : (ss ts : List S) (i : ℕ) → map rows ss ≡ map rows ts → joined rows (take i ss) ≡ joined rows (take i ts)
  same_taken ss ts i e = same_joined (take i ss) (take i ts) (sym (take-map rows i ss) ∙ ap (take i) e ∙ take-map rows i ts)

  pub same_count : (ss ts : List S) → map rows ss ≡ map rows ts → length ss ≡ length ts
  same_count ss ts e = sym (length-map ss rows) ∙ ap length e ∙ length-map ts rows

  pub same_at : (ss ts : List S) (i : ℕ) (d : S) → map rows ss ≡ map rows ts → i < length ts → rows (get_or ss i d) ≡ rows (get_or ts i d)
  same_at ss ts i d e lt = sym (get_or-map rows ss i d (rows d) (rw (same_count ss ts e) lt)) ∙ ap (λ xss. get_or xss i (rows d)) e ∙ get_or-map rows ts i d (rows d) lt

  all_seen : (P : List A → Type 0) (ss : List S) → AllByRecursion (λ s. P (rows s)) ss → AllByRecursion P (map rows ss)
  all_seen P [] h = tt
  all_seen P (s ∷ ss) h = (h.0, all_seen P ss h.1)

  seen_all : (P : List A → Type 0) (ss : List S) → AllByRecursion P (map rows ss) → AllByRecursion (λ s. P (rows s)) ss
  seen_all P [] h = tt
  seen_all P (s ∷ ss) h = (h.0, seen_all P ss h.1)

  pub same_all : (P : List A → Type 0) (ss ts : List S) → map rows ss ≡ map rows ts → AllByRecursion (λ s. P (rows s)) ts → AllByRecursion (λ s. P (rows s)) ss
  same_all P ss ts e h = seen_all P ss (subst (AllByRecursion P) (sym e) (all_seen P ts h))

pub none_shelved : {Z : Type 0} → AreShelves {Z = Z} []
unfolding IsStrictlySortedBy
none_shelved = record { keys = tt; each = tt }

pub one_ascends : (x : Stock) → IsStrictlySortedBy row_cmp (map stock_key (x ∷ []))
unfolding IsStrictlySortedBy
one_ascends x = (tt, tt)

-- what holds of all rows holds of the one at a spot
left_of : {X : Type 0} (P : X → Type 0) (xs ys : List X) → AllByRecursion P (xs ++ ys) → AllByRecursion P xs
left_of P [] ys h = tt
left_of P (x ∷ xs) ys h = (h.0, left_of P xs ys h.1)

right_of : {X : Type 0} (P : X → Type 0) (xs ys : List X) → AllByRecursion P (xs ++ ys) → AllByRecursion P ys
right_of P [] ys h = h
right_of P (x ∷ xs) ys h = right_of P xs ys h.1

pub on_shelf_all : {S A : Type 0} (rows : S → List A) (P : A → Type 0) (ss : List S) (i : ℕ) (d : S) → i < length ss → AllByRecursion P (joined rows ss) → AllByRecursion P (rows (get_or ss i d))
on_shelf_all rows P [] i d lt h = absurd (omega arith)
on_shelf_all rows P (s ∷ ss) zero d lt h = left_of P (rows s) (joined rows ss) h
on_shelf_all rows P (s ∷ ss) (suc i) d lt h = on_shelf_all rows P ss i d (omega arith) (right_of P (rows s) (joined rows ss) h)

-- the last shelf with one row more, and a shelf more
pub last_pushed : {S A : Type 0} (rows : S → List A) (ss : List S) (i : ℕ) (d new : S) (x : A) → i + 1 ≡ length ss → rows new ≡ rows (get_or ss i d) ++ x ∷ [] → joined rows (set ss i new) ≡ joined rows ss ++ x ∷ []
last_pushed rows [] i d new x e same = absurd (omega (arith, e))
last_pushed rows (s ∷ []) zero d new x e same = append-nil (rows new) ∙ same ∙ ap (λ xs. xs ++ x ∷ []) (sym (append-nil (rows s)))
last_pushed rows (s ∷ t ∷ ss) zero d new x e same = absurd (omega (arith, e))
last_pushed rows (s ∷ ss) (suc i) d new x e same = ap (λ xs. rows s ++ xs) (last_pushed rows ss i d new x (omega (arith, e)) same) ∙ sym (append_assoc (rows s) (joined rows ss) (x ∷ []))

-- whether a key is found
pub found_is : (ss : List (Vec Stock Global)) (key : Row) (r : Result Spot Spot) → IfOk r (λ s. IsPlaceOf stock_key key (all_rows ss) (place_of ss s)) → IfErr r (λ s. IsPlaceFor row_cmp stock_key key (all_rows ss) (place_of ss s)) → is_ok r ≡ has_key key (all_rows ss)
found_is ss key (Ok s) found absent = sym (has_any row_order stock_key key (all_rows ss) (place_of ss s) found)
found_is ss key (Err s) found absent = sym (lacks_any row_order stock_key key (all_rows ss) (lacks_for row_order stock_key key (all_rows ss) (place_of ss s) absent))
