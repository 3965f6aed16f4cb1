-- The tables that are there, slot by slot.
use Rattle.std.proofs.Common.{◌≡◌, ◌∙◌, ◌<◌, ◌+◌, ◌∷◌, ◌++◌, [], ℕ, zero, suc, List, None, Some, refl, sym, ap, subst, length, map, take, get_or, arith}
use Rattle.std.specs.Prelude.{true, filter}
use Rattle.std.specs.List.{AllByRecursion}
use Rattle.std.specs.List.Sorted.{IsStrictlySortedBy}
use Rattle.std.proofs.lemmas.List.{take_more, map-append}
use Rattle.ss_text.specs.Texts.{Text, text_cmp}
use Rattle.flow_law.specs.Tables.{TableValue, label_in, labels_of}
use Rattle.kept_tables.specs.Kept.{KeptTableValue}
use Rattle.kept_tables.specs.declared.slot.Held.{Held as Slot}
use Rattle.kept_tables.specs.Slots.{slot_label, table_there, tables_in, AreSlots}
use Rattle.kept_tables.proofs.SlotLemmas.{either, ascends_kept}

-- the tables of slots, one slot after another
pub tables_joined : (ss ts : List Slot) → tables_in (ss ++ ts) ≡ tables_in ss ++ tables_in ts
tables_joined [] ts = refl
tables_joined (s ∷ ss) ts = either s.there _ (λ e. rw e (ap (λ us. (s.label, s.table.table) ∷ us) (tables_joined ss ts))) (λ e. rw e (tables_joined ss ts))

-- one more slot
pub tables_more : (ss : List Slot) (i : ℕ) (s : Slot) → i < length ss → s ≡ get_or ss i s → tables_in (take (i + 1) ss) ≡ tables_in (take i ss) ++ tables_in (s ∷ [])
tables_more ss i s lt is =
    ap tables_in (take_more ss i s lt ∙ ap (λ (x : Slot). take i ss ++ x ∷ []) (sym is)) ∙ tables_joined (take i ss) (s ∷ [])

-- the tables of one slot
pub none_there : (s : Slot) → table_there s ≡ None → tables_in (s ∷ []) ≡ []
none_there s none = either s.there _ (λ e. absurd (cc)) (λ e. rw e refl)

pub one_there : (s : Slot) (t : KeptTableValue) → table_there s ≡ Some t → tables_in (s ∷ []) ≡ (slot_label s, t.table) ∷ []
one_there s t some = either s.there _ (λ e. rw e (ap (λ (u : KeptTableValue). (s.label, u.table) ∷ []) (same e))) (λ e. absurd (cc))
  where
    same : s.there ≡ true → s.table ≡ t
    same e = cc

-- a fact on all tables is one on those of each slot
pub each_there : (P : Text × TableValue → Type 0) (ss : List Slot) (i : ℕ) (s : Slot) → i < length ss → s ≡ get_or ss i s → AllByRecursion P (tables_in ss) → AllByRecursion P (tables_in (s ∷ []))
each_there P [] i s lt is h = absurd (omega arith)
each_there P (x ∷ ss) zero s lt is h = subst (λ (y : Slot). AllByRecursion P (tables_in (y ∷ []))) (sym is) (alone x ss h)
  where
    alone : (x : Slot) (ss : List Slot) → AllByRecursion P (tables_in (x ∷ ss)) → AllByRecursion P (tables_in (x ∷ []))
    alone x ss h = either x.there _ (λ e. rw e ((rw e at h).0, tt)) (λ e. rw e tt)
each_there P (x ∷ ss) (suc i) s lt is h = each_there P ss i s (omega arith) is (rest x ss h)
  where
    rest : (x : Slot) (ss : List Slot) → AllByRecursion P (tables_in (x ∷ ss)) → AllByRecursion P (tables_in ss)
    rest x ss h = either x.there _ (λ e. (rw e at h).1) (λ e. rw e at h)

-- the labels of slots whose tables are there
there_labels : (ss : List Slot) → map slot_label (filter (λ (s : Slot). s.there) ss) ≡ labels_of (tables_in ss)
there_labels [] = refl
there_labels (s ∷ ss) = either s.there _ (λ e. rw e (ap (λ ls. s.label ∷ ls) (there_labels ss))) (λ e. rw e (there_labels ss))

pub labels_ascend : (ss : List Slot) → AreSlots ss → IsStrictlySortedBy text_cmp (labels_of (tables_in ss))
labels_ascend ss h = subst (IsStrictlySortedBy text_cmp) (there_labels ss) (ascends_kept (λ (s : Slot). s.there) ss h.labels)

-- one more label
pub labels_more : (ss : List Slot) (i : ℕ) (s : Slot) (labels new : List Text) → i < length ss → s ≡ get_or ss i s → labels ≡ labels_of (tables_in (take i ss))
    → new ≡ labels ++ labels_of (tables_in (s ∷ [])) → new ≡ labels_of (tables_in (take (i + 1) ss))
labels_more ss i s labels new lt is so_far added =
    added ∙ ap (λ ls. ls ++ labels_of (tables_in (s ∷ []))) so_far ∙ sym (map-append label_in (tables_in (take i ss)) (tables_in (s ∷ []))) ∙ ap labels_of (sym (tables_more ss i s lt is))
