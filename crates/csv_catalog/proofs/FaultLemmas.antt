-- The faults of a file, met one record after the other.
use Rattle.std.proofs.Common.{◌≡◌, ◌<◌, ◌≤◌, ◌+◌, ◌==◌, ◌∷◌, ◌++◌, ◌∙◌, [], ℕ, List, Option, Some, None, true, false, refl, sym, ap, subst, suc, length, take, drop, get_or, arith, inl, inr, append_assoc}
use Rattle.std.specs.Prelude.{Bool, cond, not, ◌||◌, bytes_eq, nat_le, nat_lt, option_map, remove}
use Rattle.std.specs.Option.{option_or}
use Rattle.std.specs.List.{list_all, IsDistinct, AllByRecursion}
use Rattle.std.specs.Cmp.Lexicographic.{nat_list_eq_equiv}
use Rattle.std.proofs.lemmas.List.Folds.{list_any-append}
use Rattle.std.proofs.lemmas.Map.Keys.{IsDistinct-push}
use Rattle.std.proofs.lemmas.List.{append-nil, take_more, drop_all}
use Rattle.std.proofs.lemmas.Bool.{cases_Bool, eqb-true}
use Rattle.std.proofs.lemmas.Bool.Decides.{nat_tests}
use Rattle.ss_text.specs.Texts.{Text, Row, is_in}
use Rattle.schema_model.specs.Sound.{IsHeader, IsRelation}
use Rattle.schema_model.specs.Catalogue.{relation_value}
use Rattle.csv_catalog.specs.declared.judge.FileFault.{FileFault}
use Rattle.csv_catalog.specs.declared.judge.FileFault.TheVariants.{Repeated}
use Rattle.csv_catalog.specs.FileFaults.{repeated_after, first_repeated, rows_fault, header_fault, file_fault, header_of, rows_of}
use Rattle.csv_catalog.specs.RecordText.{has_field}
use Rattle.csv_catalog.proofs.ListLemmas.{next_left}
use Rattle.schema_model.specs.Limits.{most_rows, most_attributes}

-- the next text, seen before or not
pub repeated_here : (names : Row) (i : ℕ) (t : Text) → i < length names → t ≡ get_or names i t → is_in t (take i names) ≡ true → repeated_after (take i names) (drop i names) ≡ first_repeated names → first_repeated names ≡ Some t
unfolding repeated_after
repeated_here names i t lt is seen h = sym h ∙ rw (next_left names i t lt is, seen) refl

pub repeated_more : (names : Row) (i : ℕ) (t : Text) → i < length names → t ≡ get_or names i t → is_in t (take i names) ≡ false → repeated_after (take i names) (drop i names) ≡ first_repeated names
    → repeated_after (take (i + 1) names) (drop (i + 1) names) ≡ first_repeated names
unfolding repeated_after
repeated_more names i t lt is fresh h =
    ap (λ (ts : Row). repeated_after ts (drop (i + 1) names)) (take_more names i t lt ∙ ap (λ (x : Text). take i names ++ x ∷ []) (sym is))
    ∙ rw (next_left names i t lt is, fresh) at h

pub repeated_end : (names : Row) (i : ℕ) → length names ≤ i → repeated_after (take i names) (drop i names) ≡ first_repeated names → first_repeated names ≡ None
unfolding repeated_after
repeated_end names i past h = sym h ∙ ap (λ (ts : Row). repeated_after (take i names) ts) (drop_all i names past)

-- names of which none stands earlier are distinct
no_names : IsDistinct bytes_eq []
unfolding IsDistinct
no_names = tt

distinct_from : (seen ts : Row) → IsDistinct bytes_eq seen → repeated_after seen ts ≡ None → IsDistinct bytes_eq (seen ++ ts)
unfolding repeated_after
distinct_from seen [] d e = rw (append-nil seen) d
distinct_from seen (t ∷ ts) d e = elim (cases_Bool (is_in t seen)) [
  | inl again ↦ cc (rw again at e)
  | inr fresh ↦ subst (IsDistinct bytes_eq) (append_assoc seen (t ∷ []) ts) (distinct_from (seen ++ t ∷ []) ts (IsDistinct-push nat_list_eq_equiv seen t d fresh) (rw fresh at e))
]

-- a header without a fault, and rows without one
no_name : (o : Option Text) → option_map Repeated o ≡ None → o ≡ None
no_name None e = refl
no_name (Some k) e = cc e

sound_header : (header : Row) → 1 ≤ length header → header_fault header ≡ None → IsHeader header
sound_header header some e = elim (cases_Bool (nat_lt most_attributes (length header))) [
  | inl wide ↦ cc (rw wide at e)
  | inr narrow ↦ record { some = some; few = below (length header) narrow; distinct = distinct_from [] header no_names (no_name (first_repeated header) (rw narrow at e)) }
]
  where
    below : (n : ℕ) → nat_lt most_attributes n ≡ false → n ≤ most_attributes
    below n h = grind (arith, nat_tests)

pub rows_fit : (want nth count : ℕ) (rows : List Row) → count ≤ most_rows → rows_fault want nth count rows ≡ None → AllByRecursion (λ (row : Row). length row ≡ want) rows × (count + length rows ≤ most_rows)
unfolding rows_fault
rows_fit want nth count [] few e = (tt, omega arith)
rows_fit want nth count (row ∷ rows) few e = elim (cases_Bool (length row == want)) [
  | inr other ↦ cc (rw other at e)
  | inl fits ↦ elim (cases_Bool (nat_le most_rows count)) [
    | inl full ↦ cc (rw (fits, full) at e)
    | inr room ↦
        let rest = rows_fit want (nth + 1) (count + 1) rows (more count room) (rw (fits, room) at e) in
        ((eqb-true (length row) want fits, rest.0), moved count (length rows) rest.1)
  ]
]
  where
    more : (n : ℕ) → nat_le most_rows n ≡ false → n + 1 ≤ most_rows
    more n h = grind (arith, nat_tests)

    moved : (n m : ℕ) → n + 1 + m ≤ most_rows → n + suc m ≤ most_rows
    moved n m h = omega arith

-- a file without a fault is a sound relation
pub sound_relation : (label : Text) (count : ℕ) (records : List Row) → list_all has_field records ≡ true → count ≤ most_rows → file_fault count records ≡ None
    → IsRelation (relation_value label (header_of records) (rows_of records)) × (count + length (rows_of records) ≤ most_rows)
unfolding file_fault
sound_relation label count [] some few e = cc e
sound_relation label count ([] ∷ rows) some few e = cc some
sound_relation label count ((x ∷ xs) ∷ rows) some few e =
    let both = both_none (header_fault (x ∷ xs)) (rows_fault (length (x ∷ xs)) 2 count rows) e in
    let fit = rows_fit (length (x ∷ xs)) 2 count rows few both.1 in
    (record { header = sound_header (x ∷ xs) (one (length xs)) both.0; fits = fit.0 }, fit.1)
  where
    both_none : (a b : Option FileFault) → option_or a b ≡ None → (a ≡ None) × (b ≡ None)
    both_none None b e = (refl, e)
    both_none (Some f) b e = cc e

    one : (n : ℕ) → 1 ≤ suc n
    one n = omega arith

pub some_record : (count : ℕ) (records : List Row) → file_fault count records ≡ None → 0 < length records
unfolding file_fault
some_record count [] e = cc e
some_record count (r ∷ rs) e = one (length rs)
  where
    one : (n : ℕ) → 0 < suc n
    one n = omega arith

pub first_taken : (records : List Row) (first : Row) → 0 < length records → first ≡ get_or records 0 first → first ≡ header_of records
first_taken [] first some e = absurd (omega arith)
first_taken (r ∷ rs) first some e = e

pub rest_taken : (records rest : List Row) → 0 < length records → rest ≡ remove records 0 → rest ≡ rows_of records
rest_taken [] rest some e = absurd (omega arith)
rest_taken (r ∷ rs) rest some e = e

-- one more text among those seen
pub seen_more : (names : Row) (i : ℕ) (t q : Text) (b : Bool) → i < length names → t ≡ get_or names i t → b ≡ is_in q (take i names) → cond (bytes_eq t q) true b ≡ is_in q (take (i + 1) names)
seen_more names i t q b lt is e =
    rw (e, take_more names i t lt, list_any-append (bytes_eq q) (take i names) (get_or names i t ∷ []), ← is, nat_list_eq_equiv.symm t q) (joined (bytes_eq q t) (is_in q (take i names)))
  where
    joined : (a b : Bool) → cond a true b ≡ (b || (a || false))
    joined true true = refl
    joined true false = refl
    joined false true = refl
    joined false false = refl

-- a text that was not added was seen
pub was_seen : (b c : Bool) → b ≡ not c → b ≡ false → c ≡ true
was_seen b true e h = refl
was_seen b false e h = cc (rw e at h)

pub was_fresh : (b c : Bool) → b ≡ not c → b ≡ true → c ≡ false
was_fresh b false e h = refl
was_fresh b true e h = cc (rw e at h)
