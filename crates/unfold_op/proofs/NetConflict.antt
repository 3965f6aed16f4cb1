-- The first clash of what is left at the named places is the conflict of all facts.
use Rattle.std.proofs.Common.{◌≡◌, ◌∷◌, [], Bool, true, false, List, Option, Some, None, refl, sym, ◌∙◌, ap, map, length}
use Rattle.std.specs.Prelude.{◌==◌, ◌&&◌, ◌||◌, is_some, option_map, option_to_list, slice_get, if◌then◌else◌}
use Rattle.std.specs.List.{list_any, filter_map, AllByRecursion}
use Rattle.std.specs.List.Sorted.{IsStrictlySortedBy}
use Rattle.std.specs.declared.cmp.Ordering.{Ordering}
use Rattle.std.specs.declared.cmp.Ordering.TheVariants.{Less, Equal, Greater}
use Rattle.std.specs.Ordering.{ordering_then}
use Rattle.std.proofs.lemmas.Bool.{false≢true}
use Rattle.std.proofs.lemmas.Cmp.{tied_itself}
use Rattle.indexmap.specs.IndexMap.{get}
use Rattle.ss_text.specs.Texts.{Text, text_eq, row_eq, text_cmp, row_cmp}
use Rattle.ss_text.specs.Ascending.{ascending}
use Rattle.ss_text.proofs.KeyLemmas.{text_order, equal_is, equal_itself}
use Rattle.ss_text.proofs.PairLemmas.{any_ascending, ascending_ascends, same_keys, each_found}
use Rattle.flow_law.specs.declared.refused.Clash.{Clash}
use Rattle.flow_law.specs.Facts.{Fact, Spot, spot_cmp, spots_of, values_at, facts_of, clash_of, conflict, column_of}
use Rattle.flow_law.specs.FactOrder.{fact_cmp}
use Rattle.flow_law.specs.Labelled.{AllBear}
use Rattle.flow_law.specs.Neighbours as near
use Rattle.unfold_op.specs.Touched.{Place, Entry, place_eq, entry_cmp, entry_eq, bears_entry, SameBeyond}
use Rattle.unfold_op.specs.Kept.{first_clash, clash_of_two, held_at, places_of, Counts, Names}
use Rattle.unfold_op.proofs.Picked.{given_same}
use Rattle.unfold_op.proofs.TouchedLines.{any_value}
use Rattle.unfold_op.specs.declared.facts.FactCounts.{FactCounts}
use Rattle.counts.specs.Counted.{keys_of}
use Rattle.unfold_op.specs.declared.facts.Nets.{Nets}
use Rattle.unfold_op.specs.Nets.{before, now, present_of}
use Rattle.unfold_op.proofs.Present.{has_entry, entry_order, any_left, any_place_of, any_places}
use Rattle.unfold_op.proofs.Clashes.{present_sorted}
use Rattle.unfold_op.proofs.NetLines.{one_kept, one_value, own, one, are_named, present_is}
use Rattle.flow_law.proofs.Entries.{spot_eq, spot_order}
use Rattle.flow_law.proofs.ConflictLemmas.{conflict_first}

-- an entry as a fact
abbrev pub as_fact : Text → Entry → Fact
as_fact label e = record { label = label; key = e.0.0; cell = Some (e.0.1, e.1) }

abbrev pub as_facts : Text → List Entry → List Fact
as_facts label es = map (as_fact label) es

-- no value is empty
abbrev pub HaveValues : List Entry → Type 0
HaveValues es = AllByRecursion (λ (e : Entry). (length e.1 == 0) ≡ false) es

module _ (label : Text) where
  clash_alike : (e d : Entry) → (length e.1 == 0) ≡ false → near.clash_between (as_fact label e) (as_fact label d) ≡ clash_of_two label e d
  clash_alike e d some = rw (equal_itself text_order label, some) (by_parts (row_eq e.0.0 d.0.0) (text_eq e.0.1 d.0.1))
    where
      c : Clash
      c = record { table = label; column = e.0.1; first = e.1; second = d.1; key = e.0.0 }

      by_parts : (a b : Bool) → (if a then (if b && true then Some c else None) else None) ≡ (if a && b then Some c else None)
      by_parts true true = refl
      by_parts true false = refl
      by_parts false b = refl

  clashes_alike : (es : List Entry) → HaveValues es → near.first_clash (as_facts label es) ≡ first_clash label es
  clashes_alike [] h = refl
  clashes_alike (e ∷ []) h = refl
  clashes_alike (e ∷ d ∷ es) h = rw (clash_alike e d h.0, clashes_alike (d ∷ es) h.1) refl

  -- in order
  in_order : (r s t : Ordering) → ordering_then (ordering_then r s) t ≡ ordering_then r (ordering_then s t)
  in_order Less s t = refl
  in_order Equal s t = refl
  in_order Greater s t = refl

  fact_less : (e d : Entry) → entry_cmp e d ≡ Less → fact_cmp (as_fact label e) (as_fact label d) ≡ Less
  fact_less e d h = rw (tied_itself text_order.total label) (sym (in_order (row_cmp e.0.0 d.0.0) (text_cmp e.0.1 d.0.1) (text_cmp e.1 d.1)) ∙ h)

  all_less : (e : Entry) (es : List Entry) → AllByRecursion (λ (d : Entry). entry_cmp e d ≡ Less) es → AllByRecursion (λ (f : Fact). fact_cmp (as_fact label e) f ≡ Less) (as_facts label es)
  all_less e [] h = tt
  all_less e (d ∷ ds) h = (fact_less e d h.0, all_less e ds h.1)

  facts_ascend : (es : List Entry) → IsStrictlySortedBy entry_cmp es → IsStrictlySortedBy fact_cmp (as_facts label es)
  unfolding IsStrictlySortedBy
  facts_ascend [] s = tt
  facts_ascend (e ∷ es) s = (all_less e es s.0, facts_ascend es s.1)

  -- what they have
  any_fact : (e : Entry) (es : List Entry) → HaveValues es → has_entry (as_facts label es) e ≡ list_any (entry_eq e) es
  any_fact e [] h = refl
  any_fact e (d ∷ ds) h = rw h.0 (ap (λ b. entry_eq e d || b) (any_fact e ds h.1))

-- facts that all bear a label
pub all_own : (label : Text) (fs : List Fact) → AllBear label fs → facts_of label fs ≡ fs
all_own label [] h = refl
all_own label (f ∷ fs) h = rw (h.0, equal_itself text_order label, all_own label fs h.1) refl

none_own : (label other : Text) (fs : List Fact) → AllBear label fs → text_eq other label ≡ false → facts_of other fs ≡ []
none_own label other [] h e = refl
none_own label other (f ∷ fs) h e = rw (h.0, e) (none_own label other fs h.1 e)

facts_bear : (label : Text) (es : List Entry) → AllBear label (as_facts label es)
facts_bear label [] = tt
facts_bear label (e ∷ es) = (refl, facts_bear label es)

-- the values of a spot, and whether it clashes
abbrev pub at_spot : List Fact → Spot → List Text
at_spot fs s = values_at (facts_of s.0 fs) s.1 s.2

abbrev pub clash_at : List Fact → Spot → Option Clash
clash_at fs s = clash_of s (ascending text_cmp (at_spot fs s))

abbrev pub spot_named : List Fact → Spot → Bool
spot_named fs s = list_any (spot_eq s) (filter_map (λ (f : Fact). option_map (λ column. (f.label, f.key, column)) (column_of f)) fs)

-- a spot that no fact names has no values
no_values : (fs : List Fact) (s : Spot) → spot_named fs s ≡ false → at_spot fs s ≡ []
no_values [] s h = refl
no_values (f ∷ fs) s h = by_label (text_eq s.0 f.label) refl (row_eq s.1 f.key) refl f.cell refl (λ rest. no_values fs s rest)
  where
    by_label : (a : Bool) → text_eq s.0 f.label ≡ a → (b : Bool) → row_eq s.1 f.key ≡ b → (d : Option (Text × Text)) → f.cell ≡ d → (spot_named fs s ≡ false → at_spot fs s ≡ []) → at_spot (f ∷ fs) s ≡ []
    by_label false t b k None is rest = rw t (rest (rw is at h))
    by_label false t b k (Some d) is rest = rw t (rest (rw (is, t) at h))
    by_label true t false k None is rest = rw (t, k) (rest (rw is at h))
    by_label true t false k (Some d) is rest = rw (t, k) (rest (rw (is, t, k) at h))
    by_label true t true k None is rest = rw (t, k, is) (rest (rw is at h))
    by_label true t true k (Some d) is rest = by_column (text_eq s.2 d.0) refl
      where
        by_column : (c : Bool) → text_eq s.2 d.0 ≡ c → at_spot (f ∷ fs) s ≡ []
        by_column true u = absurd (false≢true (sym (rw (is, t, k, u) at h)))
        by_column false u = rw (t, k, is, u) (rest (rw (is, t, k, u) at h))

pub spots_named : (fs : List Fact) (s : Spot) → list_any (spot_eq s) (spots_of fs) ≡ spot_named fs s
spots_named fs s = any_ascending spot_order s (filter_map (λ (f : Fact). option_map (λ column. (f.label, f.key, column)) (column_of f)) fs)

-- a clash is named
pub clash_named : (fs : List Fact) (s : Spot) → (list_any (spot_eq s) (spots_of fs) && is_some (clash_at fs s)) ≡ is_some (clash_at fs s)
clash_named fs s = by_test (list_any (spot_eq s) (spots_of fs)) refl
  where
    by_test : (b : Bool) → list_any (spot_eq s) (spots_of fs) ≡ b → (b && is_some (clash_at fs s)) ≡ is_some (clash_at fs s)
    by_test true e = refl
    by_test false e = rw (no_values fs s (sym (spots_named fs s) ∙ e)) refl

pub spots_ascend : (fs : List Fact) → IsStrictlySortedBy spot_cmp (spots_of fs)
spots_ascend fs = ascending_ascends spot_order (filter_map (λ (f : Fact). option_map (λ column. (f.label, f.key, column)) (column_of f)) fs)

conflicts_alike : (fs gs : List Fact) → ((s : Spot) → clash_at fs s ≡ clash_at gs s) → conflict fs ≡ conflict gs
unfolding conflict
conflicts_alike fs gs h =
    ap (λ (f : Spot → Option Clash). slice_get (filter_map f (spots_of fs)) 0) (λ i s. h s i)
    ∙ ap (λ (cs : List Clash). slice_get cs 0) (given_same spot_order (clash_at gs) (spots_of fs) (spots_of gs) (spots_ascend fs) (spots_ascend gs)
    (λ s. ap (λ c. list_any (spot_eq s) (spots_of fs) && is_some c) (sym (h s)) ∙ clash_named fs s ∙ ap is_some (h s) ∙ sym (clash_named gs s)))

-- an entry of facts has a value
entry_has_value : (e : Entry) (fs : List Fact) → has_entry fs e ≡ true → (length e.1 == 0) ≡ false
entry_has_value e [] h = absurd (false≢true h)
entry_has_value e (f ∷ fs) h = by_cell f.cell refl (λ rest. entry_has_value e fs rest)
  where
    by_cell : (c : Option (Text × Text)) → f.cell ≡ c → (has_entry fs e ≡ true → (length e.1 == 0) ≡ false) → (length e.1 == 0) ≡ false
    by_cell None is rest = rest (rw is at h)
    by_cell (Some c) is rest = by_length (length c.1 == 0) refl
      where
        second : (a b : Bool) → (a && b) ≡ true → b ≡ true
        second true b h = h
        second false b h = absurd (false≢true h)

        by_length : (n : Bool) → (length c.1 == 0) ≡ n → (length e.1 == 0) ≡ false
        by_length true u = rest (rw (is, u) at h)
        by_length false u = by_test (entry_eq e ((f.key, c.0), c.1)) refl
          where
            by_test : (b : Bool) → entry_eq e ((f.key, c.0), c.1) ≡ b → (length e.1 == 0) ≡ false
            by_test true t = ap (λ (w : Text). length w == 0) (equal_is text_order e.1 c.1 (second (place_eq e.0 (f.key, c.0)) (text_eq e.1 c.1) t)) ∙ u
            by_test false t = rest (rw t at (rw (is, u) at h))

-- lists with the same values
pub ascend_alike : (vs ws : List Text) → ((v : Text) → list_any (text_eq v) vs ≡ list_any (text_eq v) ws) → ascending text_cmp vs ≡ ascending text_cmp ws
ascend_alike vs ws h = same_keys text_order (ascending text_cmp vs) (ascending text_cmp ws) (ascending_ascends text_order vs) (ascending_ascends text_order ws) (λ v. any_ascending text_order v vs ∙ h v ∙ sym (any_ascending text_order v ws))

one_is_none : (s : Spot) (o : Option Text) → clash_of s (ascending text_cmp (option_to_list o)) ≡ None
one_is_none s None = refl
one_is_none s (Some v) = refl

pub at_most_one : (s : Spot) (vs : List Text) (o : Option Text) → ((v : Text) → list_any (text_eq v) vs ≡ list_any (text_eq v) (option_to_list o)) → clash_of s (ascending text_cmp vs) ≡ None
at_most_one s vs o h = ap (clash_of s) (ascend_alike vs (option_to_list o) h) ∙ one_is_none s o

module _ (k : FactCounts) (old : List Fact) (counts : Counts (before k) old) (label : Text) (n : Nets) (named new : List Fact) (beyond : SameBeyond named old new) (after : Counts (now k n) new)
    (names : Names (keys_of n.keys) (keys_of n.columns) (keys_of n.entries) named) (bear : AllBear label new) where
  abbrev pub es : List Entry
  es = (keys_of n.entries)

  abbrev pub left : List Entry
  left = present_of k n

  pub any_present : (e : Entry) → list_any (entry_eq e) left ≡ (list_any (place_eq e.0) (places_of es) && has_entry new e)
  any_present e =
      ap (list_any (entry_eq e)) (present_is k old counts label n named new beyond after names)
      ∙ any_left named old new beyond (held_at k.cells) (own k old counts) (one k old counts) es (are_named k old counts label n named new beyond after names) e

  have_values : HaveValues left
  have_values = each_found entry_order (λ e. (length e.1 == 0) ≡ false) left (λ e there. entry_has_value e new (second (list_any (place_eq e.0) (places_of es)) (has_entry new e) (sym (any_present e) ∙ there)))
    where
      second : (a b : Bool) → (a && b) ≡ true → b ≡ true
      second true b h = h
      second false b h = absurd (false≢true h)

  pub not_named : (p : Place) (v : Text) → list_any (place_eq p) (places_of es) ≡ false → has_entry named (p, v) ≡ false
  not_named p v h = by_test (list_any (entry_eq (p, v)) es) refl
    where
      by_test : (b : Bool) → list_any (entry_eq (p, v)) es ≡ b → has_entry named (p, v) ≡ false
      by_test true t = absurd (false≢true (sym h ∙ any_places named old new beyond (held_at k.cells) (own k old counts) (one k old counts) es (are_named k old counts label n named new beyond after names) p
          ∙ any_place_of named old new beyond (held_at k.cells) (own k old counts) (one k old counts) es (are_named k old counts label n named new beyond after names) (p, v) es t))
      by_test false t = sym (are_named k old counts label n named new beyond after names (p, v)) ∙ t

  facts : List Fact
  facts = as_facts label left

  own_place : (s : Spot) → clash_of s (ascending text_cmp (values_at facts s.1 s.2)) ≡ clash_of s (ascending text_cmp (values_at new s.1 s.2))
  unfolding facts
  own_place s = by_place (list_any (place_eq (s.1, s.2)) (places_of es)) refl
    where
      p : Place
      p = (s.1, s.2)

      left_has : (v : Text) → list_any (text_eq v) (values_at facts p.0 p.1) ≡ (list_any (place_eq p) (places_of es) && has_entry new (p, v))
      left_has v = any_value (text_eq v) p facts ∙ any_fact label (p, v) left have_values ∙ any_present (p, v)

      by_place : (b : Bool) → list_any (place_eq p) (places_of es) ≡ b → clash_of s (ascending text_cmp (values_at facts p.0 p.1)) ≡ clash_of s (ascending text_cmp (values_at new p.0 p.1))
      by_place true t = ap (clash_of s) (ascend_alike (values_at facts p.0 p.1) (values_at new p.0 p.1) (λ v. left_has v ∙ ap (λ b. b && has_entry new (p, v)) t ∙ sym (any_value (text_eq v) p new)))
      by_place false t =
          at_most_one s (values_at facts p.0 p.1) None (λ v. left_has v ∙ ap (λ b. b && has_entry new (p, v)) t)
          ∙ sym (at_most_one s (values_at new p.0 p.1) (one_kept k old counts (get place_eq k.cells p))
          (λ v. any_value (text_eq v) p new ∙ sym (beyond.same (bears_entry (p, v)) (not_named p v t)) ∙ one_value k old counts p v))

  alike : (s : Spot) → clash_at facts s ≡ clash_at new s
  unfolding facts
  alike s = by_label (text_eq s.0 label) refl
    where
      with_own : (fs : List Fact) → facts_of s.0 fs ≡ fs → clash_at fs s ≡ clash_of s (ascending text_cmp (values_at fs s.1 s.2))
      with_own fs e = ap (λ (gs : List Fact). clash_of s (ascending text_cmp (values_at gs s.1 s.2))) e

      by_label : (b : Bool) → text_eq s.0 label ≡ b → clash_at facts s ≡ clash_at new s
      by_label false t = ap (λ (gs : List Fact). clash_of s (ascending text_cmp (values_at gs s.1 s.2))) (none_own label s.0 facts (facts_bear label left) t ∙ sym (none_own label s.0 new bear t))
      by_label true t =
          let is : s.0 ≡ label = equal_is text_order s.0 label t in
          with_own facts (ap (λ (l : Text). facts_of l facts) is ∙ all_own label facts (facts_bear label left)) ∙ own_place s ∙ sym (with_own new (ap (λ (l : Text). facts_of l new) is ∙ all_own label new bear))

  pub conflict_is_first : first_clash label left ≡ conflict new
  unfolding facts
  conflict_is_first = sym (clashes_alike label left have_values) ∙ conflict_first facts (facts_ascend label left (present_sorted k n)) ∙ conflicts_alike facts new alike
