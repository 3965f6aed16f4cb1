-- What a change of one slot comes to for the tables that are there.
use Rattle.std.proofs.Common.{◌≡◌, ◌∷◌, [], ℕ, Bool, true, false, List, Some, None, refl, sym, ap, subst, zero, suc, map, get_or, arith}
use Rattle.std.specs.Prelude.{option_map, cond, filter, insert}
use Rattle.std.specs.List.{AllByRecursion}
use Rattle.std.specs.List.Sorted.{IsStrictlySortedBy}
use Rattle.std.specs.declared.cmp.Ordering.TheVariants.{Less, Greater}
use Rattle.ss_text.specs.Texts.{Text, text_cmp}
use Rattle.ss_text.specs.Places.{at_place}
use Rattle.ss_text.specs.Keys.{IsPlaceOf, IsPlaceFor}
use Rattle.ss_text.proofs.PlaceLemmas.{map_at_place}
use Rattle.ss_text.proofs.KeyLemmas.{text_order, Lacks, equal_itself, less_turned, lacks_for, lacks_any, lacks_kept, lacks_changed, lookup_lacks, placed_for, at_tail, earlier_differs, ascends_placed}
use Rattle.flow_law.proofs.TableLemmas.{all_inserted}
use Rattle.flow_law.specs.Tables.{TableValue, empty_table, table_of, label_in}
use Rattle.flow_law.specs.Lines.{has_table, with_table, without_table, at_table}
use Rattle.kept_tables.specs.Kept.{KeptTableValue}
use Rattle.kept_tables.specs.declared.slot.Held.{Held as Slot}
use Rattle.kept_tables.specs.Slots.{slot_label, table_there, tables_in, new_slot, IsSlot, AreSlots}

-- a fact that holds whether a test is true or false
pub either : (b : Bool) (P : Type 0) → (b ≡ true → P) → (b ≡ false → P) → P
either true P lit dark = lit refl
either false P lit dark = dark refl

abbrev pub Ascends : List Slot → Type 0
Ascends ss = IsStrictlySortedBy text_cmp (map slot_label ss)

-- tables under labels that are all greater
all_greater : (k : Text) (ss : List Slot) → AllByRecursion (λ j. text_cmp k j ≡ Less) (map slot_label ss) → AllByRecursion (λ (p : Text × TableValue). text_cmp (label_in p) k ≡ Greater) (tables_in ss)
all_greater k [] h = tt
all_greater k (s ∷ ss) h = either s.there _ (λ e. rw e (less_turned text_order k s.label h.0, all_greater k ss h.1)) (λ e. rw e (all_greater k ss h.1))

front : (k : Text) (ss : List Slot) → AllByRecursion (λ j. text_cmp k j ≡ Less) (map slot_label ss) → IsPlaceFor text_cmp label_in k (tables_in ss) 0
front k ss h = record { within = omega arith; before = tt; after = all_greater k ss h }

earlier : (k j : Text) (ss : List Slot) (i : ℕ) → AllByRecursion (λ q. text_cmp j q ≡ Less) (map slot_label ss) → IsPlaceOf slot_label k ss i → text_cmp j k ≡ Less
earlier k j [] i h at = absurd (omega (arith, at.within))
earlier k j (s ∷ ss) zero h at = subst (λ q. text_cmp j q ≡ Less) (at.has_key s) h.0
earlier k j (s ∷ ss) (suc i) h at = earlier k j ss i h.1 (at_tail text_order slot_label k s ss i at)

-- the labels behind one that is k are greater than k
behind : (k : Text) (s : Slot) (ss : List Slot) → s.label ≡ k → AllByRecursion (λ q. text_cmp s.label q ≡ Less) (map slot_label ss) → AllByRecursion (λ q. text_cmp k q ≡ Less) (map slot_label ss)
behind k s ss e h = subst (λ j. AllByRecursion (λ q. text_cmp j q ≡ Less) (map slot_label ss)) e h

-- the first slot becomes another one
came_first : (k : Text) (x new : Slot) (ss : List Slot) → x.label ≡ k → AllByRecursion (λ q. text_cmp x.label q ≡ Less) (map slot_label ss)
    → x.there ≡ false → new.there ≡ true → new.label ≡ k → new.table.table ≡ empty_table → tables_in (new ∷ ss) ≡ with_table k (tables_in (x ∷ ss))
came_first k x new ss e h dark lit label empty =
    rw (lit, dark, label, empty) (sym (placed_for text_order label_in (k, empty_table) (tables_in ss) 0 (front k ss (behind k x ss e h))))

went_first : (k : Text) (x new : Slot) (ss : List Slot) → x.label ≡ k → AllByRecursion (λ q. text_cmp x.label q ≡ Less) (map slot_label ss)
    → x.there ≡ true → new.there ≡ false → tables_in (new ∷ ss) ≡ without_table k (tables_in (x ∷ ss))
went_first k x new ss e h lit dark =
    rw (lit, dark, e, equal_itself text_order k) (sym (lacks_kept text_order label_in k (tables_in ss) (lacks_for text_order label_in k (tables_in ss) 0 (front k ss (behind k x ss e h)))))

changed_first : (k : Text) (g : TableValue → TableValue) (x new : Slot) (ss : List Slot) → x.label ≡ k → AllByRecursion (λ q. text_cmp x.label q ≡ Less) (map slot_label ss)
    → x.there ≡ true → new.there ≡ true → new.label ≡ k → new.table.table ≡ g x.table.table → tables_in (new ∷ ss) ≡ at_table k g (tables_in (x ∷ ss))
changed_first k g x new ss e h lit still label made =
    rw (lit, still, label, made, e, equal_itself text_order k)
    (ap (λ ts. (k, g x.table.table) ∷ ts) (sym (lacks_changed text_order label_in k (λ (p : Text × TableValue). (p.0, g p.1)) (tables_in ss) (lacks_for text_order label_in k (tables_in ss) 0 (front k ss (behind k x ss e h))))))

-- a table that was not there is there now
pub came : (k : Text) (f : Slot → Slot) (ss : List Slot) (i : ℕ) (d : Slot) → Ascends ss → IsPlaceOf slot_label k ss i
    → (get_or ss i d).there ≡ false → (f (get_or ss i d)).there ≡ true → (f (get_or ss i d)).label ≡ k → (f (get_or ss i d)).table.table ≡ empty_table
    → tables_in (at_place i f ss) ≡ with_table k (tables_in ss)
unfolding IsStrictlySortedBy
came k f [] i d s at dark lit label empty = absurd (omega (arith, at.within))
came k f (x ∷ ss) zero d s at dark lit label empty = came_first k x (f x) ss (at.has_key d) s.0 dark lit label empty
came k f (x ∷ ss) (suc i) d s at dark lit label empty =
    let rest = at_tail text_order slot_label k x ss i at in
    let later = came k f ss i d s.1 rest dark lit label empty in
    either x.there _
    (λ e. rw (e, less_turned text_order x.label k (earlier k x.label ss i s.0 rest)) (ap (λ ts. (x.label, x.table.table) ∷ ts) later))
    (λ e. rw e later)

-- a table that was there is there no more
pub went : (k : Text) (f : Slot → Slot) (ss : List Slot) (i : ℕ) (d : Slot) → Ascends ss → IsPlaceOf slot_label k ss i
    → (get_or ss i d).there ≡ true → (f (get_or ss i d)).there ≡ false
    → tables_in (at_place i f ss) ≡ without_table k (tables_in ss)
unfolding IsStrictlySortedBy
went k f [] i d s at lit dark = absurd (omega (arith, at.within))
went k f (x ∷ ss) zero d s at lit dark = went_first k x (f x) ss (at.has_key d) s.0 lit dark
went k f (x ∷ ss) (suc i) d s at lit dark =
    let rest = at_tail text_order slot_label k x ss i at in
    let later = went k f ss i d s.1 rest lit dark in
    either x.there _
    (λ e. rw (e, earlier_differs text_order slot_label k x ss i s.0 rest) (ap (λ ts. (x.label, x.table.table) ∷ ts) later))
    (λ e. rw e later)

-- a table that is there changes
pub changed : (k : Text) (g : TableValue → TableValue) (f : Slot → Slot) (ss : List Slot) (i : ℕ) (d : Slot) → Ascends ss → IsPlaceOf slot_label k ss i
    → (get_or ss i d).there ≡ true → (f (get_or ss i d)).there ≡ true → (f (get_or ss i d)).label ≡ k → (f (get_or ss i d)).table.table ≡ g (get_or ss i d).table.table
    → tables_in (at_place i f ss) ≡ at_table k g (tables_in ss)
unfolding IsStrictlySortedBy
changed k g f [] i d s at lit still label new = absurd (omega (arith, at.within))
changed k g f (x ∷ ss) zero d s at lit still label new = changed_first k g x (f x) ss (at.has_key d) s.0 lit still label new
changed k g f (x ∷ ss) (suc i) d s at lit still label new =
    let rest = at_tail text_order slot_label k x ss i at in
    let later = changed k g f ss i d s.1 rest lit still label new in
    either x.there _
    (λ e. rw (e, earlier_differs text_order slot_label k x ss i s.0 rest) (ap (λ ts. (x.label, x.table.table) ∷ ts) later))
    (λ e. rw e later)

-- a slot changes of which the table stays
pub same_tables : (f : Slot → Slot) (ss : List Slot) (i : ℕ) → ((s : Slot) → (f s).there ≡ s.there) → ((s : Slot) → (f s).label ≡ s.label) → ((s : Slot) → (f s).table.table ≡ s.table.table)
    → tables_in (at_place i f ss) ≡ tables_in ss
same_tables f [] i there label table = refl
same_tables f (s ∷ ss) zero there label table = rw (there s, label s, table s) refl
same_tables f (s ∷ ss) (suc i) there label table =
    let later = same_tables f ss i there label table in
    either s.there _ (λ e. rw e (ap (λ ts. (s.label, s.table.table) ∷ ts) later)) (λ e. rw e later)

each_stays : (f : Slot → Slot) → ((s : Slot) → IsSlot s → IsSlot (f s)) → (ss : List Slot) (i : ℕ) → AllByRecursion IsSlot ss → AllByRecursion IsSlot (at_place i f ss)
each_stays f stays [] i h = tt
each_stays f stays (s ∷ ss) zero h = (stays s h.0, h.1)
each_stays f stays (s ∷ ss) (suc i) h = (h.0, each_stays f stays ss i h.1)

pub slots_stay : (f : Slot → Slot) → ((s : Slot) → (f s).label ≡ s.label) → ((s : Slot) → IsSlot s → IsSlot (f s)) → (ss : List Slot) (i : ℕ) → AreSlots ss → AreSlots (at_place i f ss)
slots_stay f label stays ss i h = record { labels = rw (map_at_place slot_label f label ss i) h.labels; empty = each_stays f stays ss i h.empty }

-- a slot without a table comes in
pub dark_inserted : (ss : List Slot) (i : ℕ) (label : Text) → tables_in (insert ss i (new_slot label)) ≡ tables_in ss
dark_inserted ss zero label = refl
dark_inserted [] (suc i) label = refl
dark_inserted (s ∷ ss) (suc i) label =
    let later = dark_inserted ss i label in
    either s.there _ (λ e. rw e (ap (λ ts. (s.label, s.table.table) ∷ ts) later)) (λ e. rw e later)

-- the table of a label, where its slot is
pub table_at : (k : Text) (ss : List Slot) (i : ℕ) (d : Slot) → Ascends ss → IsPlaceOf slot_label k ss i
    → table_of (tables_in ss) k ≡ cond (get_or ss i d).there (Some (get_or ss i d).table.table) None
unfolding IsStrictlySortedBy
table_at k [] i d s at = absurd (omega (arith, at.within))
table_at k (x ∷ ss) zero d s at =
    let e : x.label ≡ k = at.has_key d in
    let none = lookup_lacks text_order k (tables_in ss) (lacks_for text_order label_in k (tables_in ss) 0 (front k ss (behind k x ss e s.0))) in
    either x.there _ (λ lit. rw (lit, e, equal_itself text_order k) refl) (λ dark. rw dark none)
table_at k (x ∷ ss) (suc i) d s at =
    let rest = at_tail text_order slot_label k x ss i at in
    let later = table_at k ss i d s.1 rest in
    either x.there _ (λ lit. rw (lit, earlier_differs text_order slot_label k x ss i s.0 rest) later) (λ dark. rw dark later)

pub has_at : (k : Text) (ss : List Slot) (i : ℕ) (d : Slot) → Ascends ss → IsPlaceOf slot_label k ss i → has_table (tables_in ss) k ≡ (get_or ss i d).there
unfolding IsStrictlySortedBy
has_at k [] i d s at = absurd (omega (arith, at.within))
has_at k (x ∷ ss) zero d s at =
    let e : x.label ≡ k = at.has_key d in
    let none = lacks_any text_order label_in k (tables_in ss) (lacks_for text_order label_in k (tables_in ss) 0 (front k ss (behind k x ss e s.0))) in
    either x.there _ (λ lit. rw (lit, e, equal_itself text_order k) refl) (λ dark. rw dark none)
has_at k (x ∷ ss) (suc i) d s at =
    let rest = at_tail text_order slot_label k x ss i at in
    let later = has_at k ss i d s.1 rest in
    either x.there _ (λ lit. rw (lit, earlier_differs text_order slot_label k x ss i s.0 rest) later) (λ dark. rw dark later)

lacks_table : (k : Text) (ss : List Slot) → Lacks text_order slot_label k ss → Lacks text_order label_in k (tables_in ss)
lacks_table k [] h = tt
lacks_table k (s ∷ ss) h = either s.there _ (λ e. rw e (h.0, lacks_table k ss h.1)) (λ e. rw e (lacks_table k ss h.1))

-- and none where there is no slot of the label
pub table_missing : (k : Text) (ss : List Slot) (i : ℕ) → IsPlaceFor text_cmp slot_label k ss i → table_of (tables_in ss) k ≡ None
table_missing k ss i gap = lookup_lacks text_order k (tables_in ss) (lacks_table k ss (lacks_for text_order slot_label k ss i gap))

-- the table of a slot that was read
pub table_read : (k : Text) (ss : List Slot) (i : ℕ) (s : Slot) → Ascends ss → IsPlaceOf slot_label k ss i → s ≡ get_or ss i s
    → option_map (λ (t : KeptTableValue). t.table) (table_there s) ≡ table_of (tables_in ss) k
table_read k ss i s h at read =
    let here : table_of (tables_in ss) k ≡ cond s.there (Some s.table.table) None =
    subst (λ (x : Slot). table_of (tables_in ss) k ≡ cond x.there (Some x.table.table) None) (sym read) (table_at k ss i s h at) in
    either s.there _ (λ lit. rw (here, lit) refl) (λ dark. rw (here, dark) refl)

-- slots without tables are taken out
pub tables_kept : (ss : List Slot) → tables_in (filter (λ (s : Slot). s.there) ss) ≡ tables_in ss
tables_kept [] = refl
tables_kept (s ∷ ss) = either s.there _ (λ e. rw e (ap (λ ts. (s.label, s.table.table) ∷ ts) (tables_kept ss))) (λ e. rw e (tables_kept ss))

all_kept : (P : Slot → Type 0) (p : Slot → Bool) (ss : List Slot) → AllByRecursion P ss → AllByRecursion P (filter p ss)
all_kept P p [] h = tt
all_kept P p (s ∷ ss) h = either (p s) _ (λ e. rw e (h.0, all_kept P p ss h.1)) (λ e. rw e (all_kept P p ss h.1))

all_labels_kept : (P : Text → Type 0) (p : Slot → Bool) (ss : List Slot) → AllByRecursion P (map slot_label ss) → AllByRecursion P (map slot_label (filter p ss))
all_labels_kept P p [] h = tt
all_labels_kept P p (s ∷ ss) h = either (p s) _ (λ e. rw e (h.0, all_labels_kept P p ss h.1)) (λ e. rw e (all_labels_kept P p ss h.1))

pub ascends_kept : (p : Slot → Bool) (ss : List Slot) → Ascends ss → Ascends (filter p ss)
unfolding IsStrictlySortedBy
ascends_kept p [] s = tt
ascends_kept p (x ∷ ss) s = either (p x) _ (λ e. rw e (all_labels_kept (λ q. text_cmp x.label q ≡ Less) p ss s.0, ascends_kept p ss s.1)) (λ e. rw e (ascends_kept p ss s.1))

pub slots_kept : (p : Slot → Bool) (ss : List Slot) → AreSlots ss → AreSlots (filter p ss)
slots_kept p ss h = record { labels = ascends_kept p ss h.labels; empty = all_kept IsSlot p ss h.empty }

-- a slot without a table comes in
pub slot_inserted : (ss : List Slot) (i : ℕ) (label : Text) → AreSlots ss → IsPlaceFor text_cmp slot_label label ss i → AreSlots (insert ss i (new_slot label))
slot_inserted ss i label h gap = record {
  labels = ascends_placed text_order slot_label (new_slot label) ss i h.labels gap;
  empty = all_inserted IsSlot ss i (new_slot label) (λ e. refl) h.empty;
}

pub no_slots : AreSlots []
unfolding IsStrictlySortedBy
no_slots = record { labels = tt; empty = tt }
