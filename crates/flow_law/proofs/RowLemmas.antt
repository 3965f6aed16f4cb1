-- Rows of a table as they are seen, while they change one by one.
use Rattle.std.proofs.Common.{◌≡◌, ◌≢◌, ◌<◌, ◌+◌, ◌++◌, ℕ, List, refl, sym, ◌∙◌, ap, subst, map, take, drop, length, get_or, set, arith, length-set, get_or-set_other, zero, suc, [], ◌∷◌}
use Rattle.std.specs.Prelude.{insert, remove}
use Rattle.std.specs.List.{All, AllWithin}
use Rattle.std.proofs.lemmas.List.{map-set, get_or-map, set-get_or, length-map, length-append, length-take, length-drop, take_at}
use Rattle.std.proofs.lemmas.List.Edits.{map_over_more}
use Rattle.ss_text.specs.Texts.{Row}
use Rattle.ss_text.specs.Places.{at_place}
use Rattle.ss_text.specs.Keys.{IsPlaceOf}
use Rattle.flow_law.specs.Tables.{table_value, key_of}
use Rattle.flow_law.specs.InOrder.{IsTable}
use Rattle.flow_law.proofs.TableLemmas.{row_fits}
use Rattle.flow_law.specs.KeyedRows.{row_value, row_values}
use Rattle.flow_law.specs.declared.keyed_row.KeyedRow.{KeyedRow}

-- one row more is changed
pub one_row_more : (f : Row × Row → Row × Row) (old : List (Row × Row)) (now : List KeyedRow) (i : ℕ) (d new : KeyedRow)
    → i < length now → row_values now ≡ map f (take i old) ++ drop i old → row_value new ≡ f (row_value (get_or now i d))
    → row_values (set now i new) ≡ map f (take (i + 1) old) ++ drop (i + 1) old
one_row_more f old now i d new lt done e =
    map-set row_value now i new ∙ ap (λ v. set (row_values now) i v) e
    ∙ map_over_more f old (row_values now) i (row_value (get_or now i d)) shorter done (sym (get_or-map row_value now i d (row_value (get_or now i d)) lt))
  where
    shorter : i < length old
    shorter = omega (arith, simp (length-map, length-append, length-take, length-drop) at (ap length done))

-- a row is put back that is seen as it was
pub seen_as_before : (now : List KeyedRow) (i : ℕ) (d new : KeyedRow) → i < length now → row_value new ≡ row_value (get_or now i d) → row_values (set now i new) ≡ row_values now
seen_as_before now i d new lt e =
    map-set row_value now i new ∙ ap (λ v. set (row_values now) i v) (e ∙ sym (get_or-map row_value now i d (row_value d) lt)) ∙ set-get_or (row_values now) i (row_value d)

-- the rows behind a place, after a write there
pub rest_kept : (P : KeyedRow → Type 0) (xs : List KeyedRow) (i : ℕ) (new : KeyedRow) → AllWithin P xs i (length xs) → AllWithin P (set xs i new) (i + 1) (length (set xs i new))
rest_kept P xs i new h k d low high =
    let other : k ≢ i = omega arith in
    rw (get_or-set_other xs i k new d other) (h k d (omega arith) (rw length-set at high))

-- what a slice of all rows puts back
pub all_written : (n : ℕ) (new old : List KeyedRow) → length new ≡ n → take n (new ++ drop (length new) old) ≡ new
all_written n new old e = take_at new (drop (length new) old) n e

-- a fact on what rows are seen as
pub seen_rows : (P : Row × Row → Type 0) (xs : List KeyedRow) → All P (row_values xs) → AllWithin (λ (r : KeyedRow). P (row_value r)) xs 0 (length xs)
seen_rows P xs h k d low high = subst P (get_or-map row_value xs k d (row_value d) high) (h k (row_value d) (rw (length-map xs row_value) high))

-- changes of the rows as they are seen
pub seen_removed : (xs : List KeyedRow) (i : ℕ) → row_values (remove xs i) ≡ remove (row_values xs) i
seen_removed [] zero = refl
seen_removed [] (suc i) = refl
seen_removed (x ∷ xs) zero = refl
seen_removed (x ∷ xs) (suc i) = ap (λ rs. row_value x ∷ rs) (seen_removed xs i)

pub seen_inserted : (xs : List KeyedRow) (i : ℕ) (x : KeyedRow) → row_values (insert xs i x) ≡ insert (row_values xs) i (row_value x)
seen_inserted xs zero x = refl
seen_inserted [] (suc i) x = refl
seen_inserted (y ∷ ys) (suc i) x = ap (λ rs. row_value y ∷ rs) (seen_inserted ys i x)

pub seen_set : (xs : List KeyedRow) (i : ℕ) (d new : KeyedRow) (f : Row × Row → Row × Row) → i < length xs → row_value new ≡ f (row_value (get_or xs i d)) → row_values (set xs i new) ≡ at_place i f (row_values xs)
seen_set [] i d new f lt e = absurd (omega arith)
seen_set (x ∷ xs) zero d new f lt e = ap (λ r. r ∷ row_values xs) e
seen_set (x ∷ xs) (suc i) d new f lt e = ap (λ rs. row_value x ∷ rs) (seen_set xs i d new f (omega arith) e)

-- a kept row has a cell for each column
pub kept_row_fits : (columns : Row) (rows : List KeyedRow) (i : ℕ) (d : KeyedRow) → IsTable (table_value columns (row_values rows)) → i < length rows → length (get_or rows i d).cells.items ≡ length columns
kept_row_fits columns rows i d h lt =
    ap (λ (r : Row × Row). length r.1) (sym (get_or-map row_value rows i d ([], []) lt))
    ∙ row_fits (table_value columns (row_values rows)) i h (rw (length-map rows row_value) lt)

-- a place of a key among the rows as they are seen is a place among them
pub seen_within : (rows : List KeyedRow) (key : Row) (i : ℕ) → IsPlaceOf key_of key (row_values rows) i → i < length rows
seen_within rows key i at = rw (length-map rows row_value) at at.within
