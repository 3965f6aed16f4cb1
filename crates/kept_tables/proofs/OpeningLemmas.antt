-- Tables that are read from the first row to the last.
use Rattle.std.proofs.Common.{◌≡◌, ◌∷◌, ◌++◌, [], List, refl, ap, map}
use Rattle.std.specs.List.{AllByRecursion}
use Rattle.std.specs.List.Sorted.{IsStrictlySortedBy}
use Rattle.std.specs.declared.cmp.Ordering.TheVariants.{Less}
use Rattle.ss_text.specs.Texts.{Row, row_cmp}
use Rattle.flow_law.specs.Tables.{TablesValue, key_of, labels_of}
use Rattle.flow_law.specs.InOrder.{AreTables}
use Rattle.kept_tables.specs.Slots.{slot_label, tables_in, full_slot, IsSlot, AreSlots}

all_first : (P : Row → Type 0) (ks : List (Row × Row)) (r : Row × Row) (rs : List (Row × Row)) → AllByRecursion P (map key_of (ks ++ r ∷ rs)) → AllByRecursion P (map key_of (ks ++ r ∷ []))
all_first P [] r rs h = (h.0, tt)
all_first P (k ∷ ks) r rs h = (h.0, all_first P ks r rs h.1)

first_ascend : (ks : List (Row × Row)) (r : Row × Row) (rs : List (Row × Row)) → IsStrictlySortedBy row_cmp (map key_of (ks ++ r ∷ rs)) → IsStrictlySortedBy row_cmp (map key_of (ks ++ r ∷ []))
unfolding IsStrictlySortedBy
first_ascend [] r rs h = (tt, tt)
first_ascend (k ∷ ks) r rs h = (all_first (λ j. row_cmp (key_of k) j ≡ Less) ks r rs h.0, first_ascend ks r rs h.1)

-- the next row stands behind those before it
pub next_row : (all before left after : List (Row × Row)) (r s : Row × Row) → IsStrictlySortedBy row_cmp (map key_of all) → before ++ left ≡ all → left ≡ r ∷ after → s ≡ r
    → IsStrictlySortedBy row_cmp (map key_of (before ++ s ∷ []))
next_row all before left after r s h cut next same = rw same (first_ascend before r after (rw (← next, cut) h))

-- the tables of full slots
pub tables_full : (ts : TablesValue) → tables_in (map full_slot ts) ≡ ts
tables_full [] = refl
tables_full (t ∷ ts) = ap (λ us. t ∷ us) (tables_full ts)

labels_full : (ts : TablesValue) → map slot_label (map full_slot ts) ≡ labels_of ts
labels_full [] = refl
labels_full (t ∷ ts) = ap (λ us. t.0 ∷ us) (labels_full ts)

all_full : (ts : TablesValue) → AllByRecursion IsSlot (map full_slot ts)
all_full [] = tt
all_full (t ∷ ts) = (λ dark. absurd (cc), all_full ts)

pub slots_full : (ts : TablesValue) → AreTables ts → AreSlots (map full_slot ts)
slots_full ts h = record { labels = rw (labels_full ts) h.labels; empty = all_full ts }
