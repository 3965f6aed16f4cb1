-- What a change of one slot comes to for the memory that stands under labels.
use Rattle.std.proofs.Common.{◌≡◌, ◌<◌, ◌≤◌, ◌+◌, ◌∷◌, ◌++◌, [], ℕ, Bool, true, false, List, refl, sym, subst, zero, suc, length, get_or, arith}
use Rattle.std.specs.Prelude.{cond, insert}
use Rattle.std.specs.List.{AllByRecursion}
use Rattle.std.specs.List.Sorted.{IsStrictlySortedBy}
use Rattle.ss_text.specs.Texts.{Text, text_cmp, text_eq}
use Rattle.ss_text.specs.Places.{at_place}
use Rattle.ss_text.specs.Keys.{IsPlaceOf, IsPlaceFor}
use Rattle.ss_text.proofs.PlaceLemmas.{each_last}
use Rattle.ss_text.proofs.KeyLemmas.{text_order, equal_itself, Lacks, lacks_after, lacks_for, at_tail, earlier_differs}
use Rattle.flow_law.specs.declared.line.TableLine.{TableLine}
use Rattle.flow_law.specs.declared.line.TableLine.TheVariants.{TableMinus, TablePlus, RowMinus, ColumnMinus, ColumnPlus, RowPlus, Cell}
use Rattle.flow_law.specs.Lines.{label_of}
use Rattle.kept_tables.specs.declared.slot.Held.{Held as Slot}
use Rattle.kept_tables.specs.Kept.{HasFor, one_row, one_column}
use Rattle.kept_tables.specs.Slots.{slot_label, under, added, one_slot, rows_room, columns_room, HaveRoom, new_slot, slot_after, slot_for}
use Rattle.kept_tables.proofs.SlotLemmas.{Ascends}

-- sums in another order
exchanged : (e : Bool) (a b u : ℕ) → (cond e b 0 + u) + cond e a 0 ≡ (cond e a 0 + u) + cond e b 0
exchanged true a b u = omega arith
exchanged false a b u = refl

relabelled : (label j k : Text) (a b u : ℕ) → k ≡ j → (cond (text_eq label k) b 0 + u) + cond (text_eq label j) a 0 ≡ (cond (text_eq label j) a 0 + u) + cond (text_eq label j) b 0
relabelled label j k a b u e = rw e (exchanged (text_eq label j) a b u)

carried : (a u v b c : ℕ) → u + b ≡ v + c → (a + u) + b ≡ (a + v) + c
carried a u v b c h = omega arith

-- the slot at a place changes
pub under_changed : (f : Slot → ℕ) (g : Slot → Slot) (label : Text) (ss : List Slot) (i : ℕ) (d : Slot) → ((s : Slot) → (g s).label ≡ s.label) → i < length ss
    → under f label (at_place i g ss) + cond (text_eq label (get_or ss i d).label) (f (get_or ss i d)) 0 ≡ under f label ss + cond (text_eq label (get_or ss i d).label) (f (g (get_or ss i d))) 0
under_changed f g label [] i d same lt = absurd (omega arith)
under_changed f g label (s ∷ ss) zero d same lt = relabelled label s.label (g s).label (f s) (f (g s)) (under f label ss) (same s)
under_changed f g label (s ∷ ss) (suc i) d same lt =
    carried (cond (text_eq label s.label) (f s) 0) (under f label (at_place i g ss)) (under f label ss) _ _ (under_changed f g label ss i d same (omega arith))

-- nothing stands under a label that no slot has
pub under_lacks : (f : Slot → ℕ) (label : Text) (ss : List Slot) → Lacks text_order slot_label label ss → under f label ss ≡ 0
under_lacks f label [] h = refl
under_lacks f label (s ∷ ss) h = rw (h.0, under_lacks f label ss h.1) refl

-- what stands under the label of a slot is what the slot has
pub under_place : (f : Slot → ℕ) (label : Text) (ss : List Slot) (i : ℕ) (d : Slot) → Ascends ss → IsPlaceOf slot_label label ss i → under f label ss ≡ f (get_or ss i d)
unfolding IsStrictlySortedBy
under_place f label [] i d s at = absurd (omega (arith, at.within))
under_place f label (x ∷ ss) zero d s at =
    let e : x.label ≡ label = at.has_key d in
    let none : under f label ss ≡ 0 = under_lacks f label ss (lacks_after text_order slot_label label x ss e s.0) in
    let here : text_eq label x.label ≡ true = subst (λ j. text_eq label j ≡ true) (sym e) (equal_itself text_order label) in
    rw (here, none) (omega arith)
under_place f label (x ∷ ss) (suc i) d s at =
    let rest = at_tail text_order slot_label label x ss i at in
    rw (earlier_differs text_order slot_label label x ss i s.0 rest) (omega (arith, under_place f label ss i d s.1 rest))

-- a slot comes in
swapped : (a b u : ℕ) → a + (b + u) ≡ b + (a + u)
swapped a b u = omega arith

pub under_inserted : (f : Slot → ℕ) (label : Text) (ss : List Slot) (i : ℕ) (s : Slot) → under f label (insert ss i s) ≡ cond (text_eq label s.label) (f s) 0 + under f label ss
under_inserted f label ss zero s = refl
under_inserted f label [] (suc i) s = refl
under_inserted f label (x ∷ ss) (suc i) s =
    rw (under_inserted f label ss i s) (swapped (cond (text_eq label x.label) (f x) 0) (cond (text_eq label s.label) (f s) 0) (under f label ss))

-- what lines add with one line more
pub added_last : (f : TableLine → ℕ) (label : Text) (lines : List TableLine) (line : TableLine) → added f label (lines ++ line ∷ []) ≡ added f label lines + cond (text_eq label (label_of line)) (f line) 0
added_last f label [] line = omega arith
added_last f label (l ∷ lines) line = rw (added_last f label lines line) (omega arith)

-- a slot that has nothing comes in
module _ (ss : List Slot) (i : ℕ) (new : Text) where
  more_under : (f : Slot → ℕ) (label : Text) → under f label ss ≤ under f label (insert ss i (new_slot new))
  more_under f label = rw (under_inserted f label ss i (new_slot new)) (omega arith)

  each_more : (lines : List TableLine) → AllByRecursion (λ (line : TableLine). 0 < under one_slot (label_of line) ss) lines → AllByRecursion (λ (line : TableLine). 0 < under one_slot (label_of line) (insert ss i (new_slot new))) lines
  each_more [] h = tt
  each_more (line ∷ lines) h = (omega (arith, h.0, more_under one_slot (label_of line)), each_more lines h.1)

  pub room_inserted : (lines : List TableLine) → HaveRoom lines ss → HaveRoom lines (insert ss i (new_slot new))
  room_inserted lines h = record {
    slots = each_more lines h.slots;
    rows = λ label. omega (arith, h.rows label, more_under rows_room label);
    columns = λ label. omega (arith, h.columns label, more_under columns_room label);
  }

-- a line is expected at its slot
row_more : (line : TableLine) (s : Slot) → rows_room (slot_for line s) ≡ rows_room s + one_row line
row_more (TableMinus label) s = omega arith
row_more (TablePlus label) s = omega arith
row_more (RowMinus label key) s = omega arith
row_more (ColumnMinus label column) s = omega arith
row_more (ColumnPlus label column) s = omega arith
row_more (RowPlus label key) s = refl
row_more (Cell label column value key) s = omega arith

column_more : (line : TableLine) (s : Slot) → columns_room (slot_for line s) ≡ columns_room s + one_column line
column_more (TableMinus label) s = omega arith
column_more (TablePlus label) s = omega arith
column_more (RowMinus label key) s = omega arith
column_more (ColumnMinus label column) s = omega arith
column_more (ColumnPlus label column) s = refl
column_more (RowPlus label key) s = omega arith
column_more (Cell label column value key) s = omega arith

weighed : (e : Bool) (a u v n m one : ℕ) → m ≡ n + one → u + cond e n 0 ≡ v + cond e m 0 → a ≤ v → a + cond e one 0 ≤ u
weighed true a u v n m one e h le = omega arith
weighed false a u v n m one e h le = omega arith

even : (e : Bool) (u v : ℕ) → u + cond e 1 0 ≡ v + cond e 1 0 → u ≡ v
even true u v h = omega arith
even false u v h = omega arith

module _ (g : Slot → Slot) (same : (s : Slot) → (g s).label ≡ s.label) (ss : List Slot) (i : ℕ) (d : Slot) (lt : i < length ss) where
  pub same_slots : (label : Text) → under one_slot label (at_place i g ss) ≡ under one_slot label ss
  same_slots label = even (text_eq label (get_or ss i d).label) _ _ (under_changed one_slot g label ss i d same lt)

  pub each_slot : (lines : List TableLine) → AllByRecursion (λ (line : TableLine). 0 < under one_slot (label_of line) ss) lines → AllByRecursion (λ (line : TableLine). 0 < under one_slot (label_of line) (at_place i g ss)) lines
  each_slot [] h = tt
  each_slot (line ∷ lines) h = (rw (same_slots (label_of line)) h.0, each_slot lines h.1)

module _ (line : TableLine) (ss : List Slot) (i : ℕ) (d : Slot) (s : Ascends ss) (at : IsPlaceOf slot_label (label_of line) ss i) where
  expected_more : (f : Slot → ℕ) (one : TableLine → ℕ) → ((x : Slot) → f (slot_for line x) ≡ f x + one line) → (label : Text) (a : ℕ)
      → a ≤ under f label ss → a + cond (text_eq label (label_of line)) (one line) 0 ≤ under f label (at_place i (slot_for line) ss)
  expected_more f one more label a le =
      let counts = under_changed f (slot_for line) label ss i d (λ x. refl) at.within in
      weighed (text_eq label (label_of line)) a _ _ _ _ (one line) (more (get_or ss i d)) (subst (λ (j : Text). under f label (at_place i (slot_for line) ss) + cond (text_eq label j) (f (get_or ss i d)) 0 ≡ under f label ss + cond (text_eq label j) (f (slot_for line (get_or ss i d))) 0) (at.has_key d) counts) le

  has_slot : 0 < under one_slot (label_of line) (at_place i (slot_for line) ss)
  has_slot = rw (same_slots (slot_for line) (λ x. refl) ss i d at.within (label_of line), under_place one_slot (label_of line) ss i d s at) (omega arith)

  -- and there is memory for it beside what lines before it add
  pub room_expected : (lines : List TableLine) → HaveRoom lines ss → HaveRoom (lines ++ line ∷ []) (at_place i (slot_for line) ss)
  room_expected lines h = record {
    slots = each_last (λ (l : TableLine). 0 < under one_slot (label_of l) (at_place i (slot_for line) ss)) lines line (each_slot (slot_for line) (λ x. refl) ss i d at.within lines h.slots) has_slot;
    rows = λ label. rw (added_last one_row label lines line) (expected_more rows_room one_row (row_more line) label (added one_row label lines) (h.rows label));
    columns = λ label. rw (added_last one_column label lines line) (expected_more columns_room one_column (column_more line) label (added one_column label lines) (h.columns label));
  }

-- a line is made at its slot
pub label_stays : (line : TableLine) (s : Slot) → (slot_after line s).label ≡ s.label
label_stays (TableMinus label) s = refl
label_stays (TablePlus label) s = refl
label_stays (RowMinus label key) s = refl
label_stays (ColumnMinus label column) s = refl
label_stays (ColumnPlus label column) s = refl
label_stays (RowPlus label key) s = refl
label_stays (Cell label column value key) s = refl

row_left : (line : TableLine) (s : Slot) → one_row line ≤ rows_room s → rows_room (slot_after line s) + one_row line ≡ rows_room s
row_left (TableMinus label) s h = omega arith
row_left (TablePlus label) s h = omega arith
row_left (RowMinus label key) s h = omega arith
row_left (ColumnMinus label column) s h = omega arith
row_left (ColumnPlus label column) s h = omega arith
row_left (RowPlus label key) s h = omega arith
row_left (Cell label column value key) s h = omega arith

column_left : (line : TableLine) (s : Slot) → one_column line ≤ columns_room s → columns_room (slot_after line s) + one_column line ≡ columns_room s
column_left (TableMinus label) s h = omega arith
column_left (TablePlus label) s h = omega arith
column_left (RowMinus label key) s h = omega arith
column_left (ColumnMinus label column) s h = omega arith
column_left (ColumnPlus label column) s h = omega arith
column_left (RowPlus label key) s h = omega arith
column_left (Cell label column value key) s h = omega arith

spent : (e : Bool) (a u v n m one : ℕ) → m + one ≡ n → u + cond e n 0 ≡ v + cond e m 0 → cond e one 0 + a ≤ v → a ≤ u
spent true a u v n m one e h le = omega arith
spent false a u v n m one e h le = omega arith

module _ (line : TableLine) (ss : List Slot) (i : ℕ) (d : Slot) (s : Ascends ss) (at : IsPlaceOf slot_label (label_of line) ss i) where
  has_one : (f : Slot → ℕ) (one : TableLine → ℕ) (lines : List TableLine) → added one (label_of line) (line ∷ lines) ≤ under f (label_of line) ss → one line ≤ f (get_or ss i d)
  has_one f one lines le =
      let here : cond (text_eq (label_of line) (label_of line)) (one line) 0 ≡ one line = rw (equal_itself text_order (label_of line)) refl in
      omega (arith, le, here, under_place f (label_of line) ss i d s at)

  -- there is memory in it for the line
  pub has_for : (lines : List TableLine) → HaveRoom (line ∷ lines) ss → HasFor line (get_or ss i d).table
  has_for lines h = record { rows = has_one rows_room one_row lines (h.rows (label_of line)); columns = has_one columns_room one_column lines (h.columns (label_of line)) }

  made_less : (f : Slot → ℕ) (one : TableLine → ℕ) → ((x : Slot) → one line ≤ f x → f (slot_after line x) + one line ≡ f x) → one line ≤ f (get_or ss i d) → (label : Text) (a : ℕ)
      → cond (text_eq label (label_of line)) (one line) 0 + a ≤ under f label ss → a ≤ under f label (at_place i (slot_after line) ss)
  made_less f one less enough label a le =
      let counts = under_changed f (slot_after line) label ss i d (label_stays line) at.within in
      spent (text_eq label (label_of line)) a _ _ _ _ (one line) (less (get_or ss i d) enough) (subst (λ (j : Text). under f label (at_place i (slot_after line) ss) + cond (text_eq label j) (f (get_or ss i d)) 0 ≡ under f label ss + cond (text_eq label j) (f (slot_after line (get_or ss i d))) 0) (at.has_key d) counts) le

  -- and the memory for the lines behind it is left
  pub room_left : (lines : List TableLine) → HaveRoom (line ∷ lines) ss → HaveRoom lines (at_place i (slot_after line) ss)
  room_left lines h =
      let enough = has_for lines h in
      record {
        slots = each_slot (slot_after line) (label_stays line) ss i d at.within lines h.slots.1;
        rows = λ label. made_less rows_room one_row (row_left line) enough.rows label (added one_row label lines) (h.rows label);
        columns = λ label. made_less columns_room one_column (column_left line) enough.columns label (added one_column label lines) (h.columns label);
      }

-- the slot of the first of such lines is there
pub slot_there : (line : TableLine) (lines : List TableLine) (ss : List Slot) (i : ℕ) → HaveRoom (line ∷ lines) ss → IsPlaceFor text_cmp slot_label (label_of line) ss i → ⊥
slot_there line lines ss i h gap = absurd (omega (arith, h.slots.0, under_lacks one_slot (label_of line) ss (lacks_for text_order slot_label (label_of line) ss i gap)))
