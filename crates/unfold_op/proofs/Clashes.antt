-- Entries in order of which no two have one place.
use Rattle.std.proofs.Common.{◌≡◌, ◌∷◌, ◌++◌, [], Bool, true, false, List, None, refl, sym, ◌∙◌, map}
use Rattle.std.specs.Prelude.{nat_lt}
use Rattle.std.specs.List.{AllByRecursion, filter_map}
use Rattle.std.specs.List.Sorted.{IsStrictlySortedBy}
use Rattle.std.specs.declared.cmp.Ordering.{Ordering}
use Rattle.std.specs.declared.cmp.Ordering.TheVariants.{Less, Equal, Greater}
use Rattle.std.specs.Ordering.{ordering_then, is_eq}
use Rattle.std.proofs.lemmas.List.Kept.{IsStrictlySortedBy-filter}
use Rattle.ss_text.specs.Texts.{Text, text_cmp}
use Rattle.ss_text.proofs.PairLemmas.{ascending_ascends}
use Rattle.unfold_op.specs.declared.facts.FactCounts.{FactCounts}
use Rattle.counts.specs.Counted.{keys_of}
use Rattle.unfold_op.specs.declared.facts.Nets.{Nets}
use Rattle.unfold_op.specs.Touched.{Place, Entry, place_cmp, place_eq, entry_cmp}
use Rattle.unfold_op.specs.Kept.{first_clash, held_at, places_of}
use Rattle.unfold_op.specs.Nets.{now, present_of}
use Rattle.unfold_op.proofs.TouchedLines.{place_order}
use Rattle.unfold_op.proofs.Present.{entry_order}

-- the next entry has a greater place
next_greater : (e d : Entry) → entry_cmp e d ≡ Less → place_eq e.0 d.0 ≡ false → place_cmp e.0 d.0 ≡ Less
next_greater e d h differ = decided (place_cmp e.0 d.0) (text_cmp e.1 d.1) h (sym (place_order.ties e.0 d.0) ∙ differ)
  where
    decided : (r s : Ordering) → ordering_then r s ≡ Less → is_eq r ≡ false → r ≡ Less
    decided Less s g i = refl
    decided Equal s g i = absurd (cc)
    decided Greater s g i = absurd (cc)

greater_all : (p q : Place) (ps : List Place) → place_cmp p q ≡ Less → AllByRecursion (λ r. place_cmp q r ≡ Less) ps → AllByRecursion (λ r. place_cmp p r ≡ Less) ps
greater_all p q [] lt h = tt
greater_all p q (r ∷ rs) lt h = (place_order.total.trans p q r lt h.0, greater_all p q rs lt h.1)

pub no_clash_ascends : (label : Text) (es : List Entry) → IsStrictlySortedBy entry_cmp es → first_clash label es ≡ None → IsStrictlySortedBy place_cmp (map (λ (e : Entry). e.0) es)
unfolding IsStrictlySortedBy
no_clash_ascends label [] s h = tt
no_clash_ascends label (e ∷ []) s h = (tt, tt)
no_clash_ascends label (e ∷ d ∷ es) s h = by_test (place_eq e.0 d.0) refl (λ rest. no_clash_ascends label (d ∷ es) s.1 rest)
  where
    by_test : (b : Bool) → place_eq e.0 d.0 ≡ b → (first_clash label (d ∷ es) ≡ None → IsStrictlySortedBy place_cmp (map (λ (c : Entry). c.0) (d ∷ es))) → IsStrictlySortedBy place_cmp (map (λ (c : Entry). c.0) (e ∷ d ∷ es))
    by_test true t rest = absurd (cc (rw t at h))
    by_test false t rest =
        let later = rest (rw t at h) in
        let lt = next_greater e d s.0.0 t in
        ((lt, greater_all e.0 d.0 (map (λ (c : Entry). c.0) es) lt later.0), later)

pub present_sorted : (k : FactCounts) (n : Nets) → IsStrictlySortedBy entry_cmp (present_of k n)
present_sorted k n = IsStrictlySortedBy-filter entry_cmp (λ e. nat_lt 0 ((now k n).entries e)) _ (ascending_ascends entry_order ((keys_of n.entries) ++ filter_map (held_at k.cells) (places_of (keys_of n.entries))))

pub present_ascends : (label : Text) (k : FactCounts) (n : Nets) → first_clash label (present_of k n) ≡ None → IsStrictlySortedBy place_cmp (map (λ (e : Entry). e.0) (present_of k n))
present_ascends label k n h = no_clash_ascends label (present_of k n) (present_sorted k n) h
