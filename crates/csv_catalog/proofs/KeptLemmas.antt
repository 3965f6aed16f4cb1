-- A relation that is placed among others by its name keeps them in order.
use Rattle.std.proofs.Common.{◌≡◌, ◌≤◌, ◌+◌, ◌∷◌, ◌∙◌, [], ℕ, List, true, refl, ap, suc, length, arith}
use Rattle.std.specs.List.{AllByRecursion, list_all}
use Rattle.std.specs.List.Sorted.{IsStrictlySortedBy}
use Rattle.std.specs.Ordering.{ordering_reverse}
use Rattle.std.specs.Cmp.{IsTotalOrder}
use Rattle.std.specs.Cmp.Lexicographic.{nat_list_cmp_total}
use Rattle.std.specs.declared.cmp.Ordering.{Ordering}
use Rattle.std.specs.declared.cmp.Ordering.TheVariants.{Less, Equal, Greater}
use Rattle.std.proofs.lemmas.Bool.{and_parts}
use Rattle.std.proofs.lemmas.List.Sums.{sum_by-cons}
use Rattle.ss_text.specs.Label.{is_table_label}
use Rattle.ss_text.specs.Texts.{Text, text_cmp}
use Rattle.ss_text.specs.Ascending.{by_order, with_element}
use Rattle.csv_catalog.specs.Reading.{names_of, rows_counted, AreKept, MayBeKept}
use Rattle.csv_catalog.specs.Loaded.{by_name}
use Rattle.schema_model.specs.Catalogue.{RelationValue}

total : IsTotalOrder text_cmp
total = nat_list_cmp_total

abbrev Above : Text → List Text → Type 0
Above n ms = AllByRecursion (λ m. text_cmp n m ≡ Less) ms

above_all : (n y : Text) (ms : List Text) → text_cmp n y ≡ Less → Above y ms → Above n ms
above_all n y [] lt h = tt
above_all n y (m ∷ ms) lt h = (total.trans n y m lt h.0, above_all n y ms lt h.1)

above_placed : (n : Text) (r : RelationValue) (rs : List RelationValue) → Above n (names_of rs) → text_cmp n r.name ≡ Less → Above n (names_of (with_element by_name r rs))
above_placed n r [] h lt = (lt, tt)
above_placed n r (y ∷ ys) h lt =
    elim (text_cmp r.name y.name) as (λ o. Above n (names_of (by_order o (r ∷ y ∷ ys) (y ∷ ys) (y ∷ with_element by_name r ys))))
    [ Less ↦ (lt, h) | Equal ↦ h | Greater ↦ (h.0, above_placed n r ys h.1 lt) ]

ascend_by : (r y : RelationValue) (ys : List RelationValue) (o : Ordering) → text_cmp r.name y.name ≡ o → IsStrictlySortedBy text_cmp (names_of (y ∷ ys)) → IsStrictlySortedBy text_cmp (names_of (with_element by_name r ys))
    → IsStrictlySortedBy text_cmp (names_of (by_order o (r ∷ y ∷ ys) (y ∷ ys) (y ∷ with_element by_name r ys)))
unfolding IsStrictlySortedBy
ascend_by r y ys Less e h rest = ((e, above_all r.name y.name (names_of ys) e h.0), h)
ascend_by r y ys Equal e h rest = h
ascend_by r y ys Greater e h rest = (above_placed y.name r ys h.0 (total.antisymm y.name r.name ∙ ap ordering_reverse e), rest)

ascend_placed : (r : RelationValue) (rs : List RelationValue) → IsStrictlySortedBy text_cmp (names_of rs) → IsStrictlySortedBy text_cmp (names_of (with_element by_name r rs))
unfolding IsStrictlySortedBy
ascend_placed r [] h = (tt, tt)
ascend_placed r (y ∷ ys) h = ascend_by r y ys (text_cmp r.name y.name) refl h (ascend_placed r ys h.1)

legal_placed : (r : RelationValue) (rs : List RelationValue) → is_table_label r.name ≡ true → list_all is_table_label (names_of rs) ≡ true → list_all is_table_label (names_of (with_element by_name r rs)) ≡ true
legal_placed r [] l h = rw l refl
legal_placed r (y ∷ ys) l h =
    let each = and_parts (is_table_label y.name) _ h in
    elim (text_cmp r.name y.name) as (λ o. list_all is_table_label (names_of (by_order o (r ∷ y ∷ ys) (y ∷ ys) (y ∷ with_element by_name r ys))) ≡ true)
    [ Less ↦ rw (l, h) refl | Equal ↦ h | Greater ↦ rw (each.0, legal_placed r ys l each.1) refl ]

rows_placed : (r : RelationValue) (rs : List RelationValue) → rows_counted (with_element by_name r rs) ≤ length r.rows + rows_counted rs
rows_placed r [] = rw (sum_by-cons (λ (x : RelationValue). length x.rows) r []) (omega arith)
rows_placed r (y ∷ ys) =
    elim (text_cmp r.name y.name) as (λ o. rows_counted (by_order o (r ∷ y ∷ ys) (y ∷ ys) (y ∷ with_element by_name r ys)) ≤ length r.rows + rows_counted (y ∷ ys)) [
      | Less ↦ rw (sum_by-cons (λ (x : RelationValue). length x.rows) r (y ∷ ys)) (same (length r.rows + rows_counted (y ∷ ys)))
      | Equal ↦ more (length r.rows) (rows_counted (y ∷ ys))
      | Greater ↦ rw (sum_by-cons (λ (x : RelationValue). length x.rows) y (with_element by_name r ys), sum_by-cons (λ (x : RelationValue). length x.rows) y ys) (moved (length y.rows) (length r.rows) (rows_counted ys) (rows_counted (with_element by_name r ys)) (rows_placed r ys))
    ]
  where
    same : (n : ℕ) → n ≤ n
    same n = omega arith

    more : (n m : ℕ) → m ≤ n + m
    more n m = omega arith

    moved : (a b c d : ℕ) → d ≤ b + c → a + d ≤ b + (a + c)
    moved a b c d h = omega arith

pub length_placed : (r : RelationValue) (rs : List RelationValue) → length (with_element by_name r rs) ≤ length rs + 1
length_placed r [] = omega arith
length_placed r (y ∷ ys) =
    elim (text_cmp r.name y.name) as (λ o. length (by_order o (r ∷ y ∷ ys) (y ∷ ys) (y ∷ with_element by_name r ys)) ≤ suc (length ys) + 1)
    [ Less ↦ same (length ys) | Equal ↦ more (length ys) | Greater ↦ moved (length (with_element by_name r ys)) (length ys) (length_placed r ys) ]
  where
    same : (n : ℕ) → suc (suc n) ≤ suc n + 1
    same n = omega arith

    more : (n : ℕ) → suc n ≤ suc n + 1
    more n = omega arith

    moved : (a b : ℕ) → a ≤ b + 1 → suc a ≤ suc b + 1
    moved a b h = omega arith

pub kept_more : (before : ℕ) (r : RelationValue) (rs : List RelationValue) (counted : ℕ) → MayBeKept r counted → AreKept before rs counted → AreKept before (with_element by_name r rs) (counted + length r.rows)
kept_more before r rs counted may h = record {
  names = record { ascend = ascend_placed r rs h.names.ascend; legal = legal_placed r rs may.legal h.names.legal };
  rows = moved before (rows_counted rs) (rows_counted (with_element by_name r rs)) counted (length r.rows) h.rows (rows_placed r rs);
}
  where
    moved : (b m p c n : ℕ) → b + m ≤ c → p ≤ n + m → b + p ≤ c + n
    moved b m p c n h k = omega arith

pub kept_none : (counted : ℕ) → AreKept counted [] counted
unfolding IsStrictlySortedBy
kept_none counted = record { names = record { ascend = tt; legal = refl }; rows = same counted }
  where
    same : (n : ℕ) → n + 0 ≤ n
    same n = omega arith
