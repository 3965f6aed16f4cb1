-- What was handled, by its places and numbers.
use Rattle.std.proofs.Common.{◌≡◌, ◌∷◌, ◌++◌, ◌∙◌, ◌+◌, ◌-◌, ◌≤◌, ℕ, suc, zero, [], Bool, true, false, cond, List, Option, Some, None, refl, sym, ap, subst, length, arith}
use Rattle.std.proofs.lemmas.Bool.{ne_eqb, eq-eqb}
use Rattle.std.specs.Prelude.{◌==◌, ◌&&◌, slice_get, option_and_then, Vec}
use Rattle.std.specs.Option.{option_map_or}
use Rattle.std.specs.declared.alloc.Global.{Global}
use Rattle.indexmap.specs.IndexMap.{IndexMap, get}
use Rattle.ss_text.specs.Texts.{Text, text_eq}
use Rattle.ss_text.proofs.KeyLemmas.{text_order, equal_itself, equal_is}
use Rattle.std.proofs.lemmas.List.{map-append}
use Rattle.feed_core.specs.declared.arrival.Arrival.{Arrival}
use Rattle.feed_core.specs.Handled.{Handled}
use Rattle.feed_core.specs.Arrivals.{of_source, count_of, arrivals_of, handled_at}
use Rattle.feed_core.specs.Numbered.{numbers_from, numbers_of, AreNumbered}
use Rattle.feed_core.specs.Kept.{places_from, places_in, IsKept}

same_text : (a b : Text) → text_eq a b ≡ true → a ≡ b
same_text a b e = equal_is text_order a b e

-- a source has as many places as arrivals
pub places_counted : (place : ℕ) (source : Text) (hs : List Handled) → length (places_from place source hs) ≡ count_of source (arrivals_of hs)
places_counted place source [] = refl
places_counted place source (h ∷ hs) = by_test (text_eq source h.arrival.source) (places_counted (suc place) source hs)
  where
    by_test : (b : Bool) → length (places_from (suc place) source hs) ≡ count_of source (arrivals_of hs)
        → length (cond b (place ∷ places_from (suc place) source hs) (places_from (suc place) source hs)) ≡ length (cond b (h.arrival ∷ of_source source (arrivals_of hs)) (of_source source (arrivals_of hs)))
    by_test true e = ap suc e
    by_test false e = e

first_number : {x y : ℕ} {xs ys : List ℕ} → x ∷ xs ≡ y ∷ ys → x ≡ y
first_number e = cc

later_numbers : {x y : ℕ} {xs ys : List ℕ} → x ∷ xs ≡ y ∷ ys → xs ≡ ys
later_numbers e = cc

-- where the arrivals of a source are numbered from one on, that of a number is found at the place that is kept for it
pub found_at : (all : List Handled) (source : Text) (hs : List Handled) (place n : ℕ)
    → ((j : ℕ) → slice_get all (place + j) ≡ slice_get hs j)
    → numbers_of (of_source source (arrivals_of hs)) ≡ numbers_from n (of_source source (arrivals_of hs))
    → (i : ℕ) → option_and_then (slice_get all) (slice_get (places_from place source hs) i) ≡ handled_at source (n + i) hs
found_at all source [] place n reads numbered i = refl
found_at all source (h ∷ hs) place n reads numbered i =
    by_test (text_eq source h.arrival.source) numbered (λ m. found_at all source hs (suc place) m) i
  where
    later : (j : ℕ) → slice_get all (suc place + j) ≡ slice_get hs j
    later j = let e : suc place + j ≡ place + suc j = omega arith in ap (slice_get all) e ∙ reads (suc j)

    here : slice_get all place ≡ Some h
    here = let e : place ≡ place + 0 = omega arith in ap (slice_get all) e ∙ reads 0

    by_test : (b : Bool)
        → numbers_of (cond b (h.arrival ∷ of_source source (arrivals_of hs)) (of_source source (arrivals_of hs))) ≡ numbers_from n (cond b (h.arrival ∷ of_source source (arrivals_of hs)) (of_source source (arrivals_of hs)))
        → ((m : ℕ) → ((j : ℕ) → slice_get all (suc place + j) ≡ slice_get hs j) → numbers_of (of_source source (arrivals_of hs)) ≡ numbers_from m (of_source source (arrivals_of hs))
        → (i : ℕ) → option_and_then (slice_get all) (slice_get (places_from (suc place) source hs) i) ≡ handled_at source (m + i) hs)
        → (i : ℕ) → option_and_then (slice_get all) (slice_get (cond b (place ∷ places_from (suc place) source hs) (places_from (suc place) source hs)) i)
        ≡ cond (b && ((n + i) == h.arrival.number)) (Some h) (handled_at source (n + i) hs)
    by_test false numbered rest i = rest n later numbered i
    by_test true numbered rest zero =
        let same : n + 0 ≡ h.arrival.number = let e : n + 0 ≡ n = omega arith in e ∙ sym (first_number numbered) in
        here ∙ sym (ap (λ (b : Bool). cond b (Some h) (handled_at source (n + 0) hs)) (eq-eqb (n + 0) h.arrival.number same))
    by_test true numbered rest (suc i) =
        let first : h.arrival.number ≡ n = first_number numbered in
        let other : ((n + suc i) == h.arrival.number) ≡ false = ne_eqb (n + suc i) h.arrival.number (λ e. omega (arith, e, first)) in
        let e : suc n + i ≡ n + suc i = omega arith in
        rest (suc n) later (later_numbers numbered) i ∙ ap (λ m. handled_at source m hs) e ∙ sym (ap (λ (b : Bool). cond b (Some h) (handled_at source (n + suc i) hs)) other)

-- one more behind them
pub places_more : (place : ℕ) (source : Text) (hs : List Handled) (h : Handled)
    → places_from place source (hs ++ h ∷ []) ≡ places_from place source hs ++ cond (text_eq source h.arrival.source) ((place + length hs) ∷ []) []
places_more place source [] h = by_test (text_eq source h.arrival.source)
  where
    by_test : (b : Bool) → cond b (place ∷ []) [] ≡ cond b ((place + 0) ∷ []) []
    by_test true = let e : place ≡ place + 0 = omega arith in ap (λ p. p ∷ []) e
    by_test false = refl
places_more place source (k ∷ hs) h = by_test (text_eq source k.arrival.source) (places_more (suc place) source hs h)
  where
    e : suc place + length hs ≡ place + suc (length hs)
    e = omega arith

    by_test : (b : Bool)
        → places_from (suc place) source (hs ++ h ∷ []) ≡ places_from (suc place) source hs ++ cond (text_eq source h.arrival.source) ((suc place + length hs) ∷ []) []
        → cond b (place ∷ places_from (suc place) source (hs ++ h ∷ [])) (places_from (suc place) source (hs ++ h ∷ []))
        ≡ cond b (place ∷ places_from (suc place) source hs) (places_from (suc place) source hs) ++ cond (text_eq source h.arrival.source) ((place + suc (length hs)) ∷ []) []
    by_test true rest = ap (λ ps. place ∷ ps) (rest ∙ ap (λ p. places_from (suc place) source hs ++ cond (text_eq source h.arrival.source) (p ∷ []) []) e)
    by_test false rest = rest ∙ ap (λ p. places_from (suc place) source hs ++ cond (text_eq source h.arrival.source) (p ∷ []) []) e

-- the numbers of a source, with one arrival more
numbers_more : (source : Text) (sent : List Arrival) (a : Arrival) (n : ℕ)
    → numbers_of (of_source source sent) ≡ numbers_from n (of_source source sent)
    → (text_eq source a.source ≡ true → a.number ≡ n + count_of source sent)
    → numbers_of (of_source source (sent ++ a ∷ [])) ≡ numbers_from n (of_source source (sent ++ a ∷ []))
numbers_more source [] a n numbered next = by_test (text_eq source a.source) next
  where
    by_test : (b : Bool) → (b ≡ true → a.number ≡ n + 0) → numbers_of (cond b (a ∷ []) []) ≡ numbers_from n (cond b (a ∷ []) [])
    by_test true next = let e : a.number ≡ n = omega (arith, next refl) in ap (λ m. m ∷ []) e
    by_test false next = refl
numbers_more source (b ∷ sent) a n numbered next = by_test (text_eq source b.source) numbered next (λ m. numbers_more source sent a m)
  where
    by_test : (t : Bool)
        → numbers_of (cond t (b ∷ of_source source sent) (of_source source sent)) ≡ numbers_from n (cond t (b ∷ of_source source sent) (of_source source sent))
        → (text_eq source a.source ≡ true → a.number ≡ n + length (cond t (b ∷ of_source source sent) (of_source source sent)))
        → ((m : ℕ) → numbers_of (of_source source sent) ≡ numbers_from m (of_source source sent) → (text_eq source a.source ≡ true → a.number ≡ m + count_of source sent)
        → numbers_of (of_source source (sent ++ a ∷ [])) ≡ numbers_from m (of_source source (sent ++ a ∷ [])))
        → numbers_of (cond t (b ∷ of_source source (sent ++ a ∷ [])) (of_source source (sent ++ a ∷ []))) ≡ numbers_from n (cond t (b ∷ of_source source (sent ++ a ∷ [])) (of_source source (sent ++ a ∷ [])))
    by_test true numbered next rest =
        let later : text_eq source a.source ≡ true → a.number ≡ suc n + count_of source sent = λ e. omega (arith, next e) in
        let more : numbers_of (of_source source (sent ++ a ∷ [])) ≡ numbers_from (suc n) (of_source source (sent ++ a ∷ [])) = rest (suc n) (later_numbers numbered) later in
        ap (λ (ns : List ℕ). b.number ∷ ns) more ∙ ap (λ m. m ∷ numbers_from (suc n) (of_source source (sent ++ a ∷ []))) (first_number numbered)
    by_test false numbered next rest = rest n numbered next

-- one arrival more, which has the next number of its source
pub numbered_more : (sent : List Arrival) (a : Arrival) → AreNumbered sent → a.number ≡ suc (count_of a.source sent) → AreNumbered (sent ++ a ∷ [])
numbered_more sent a numbered next source = numbers_more source sent a 1 (numbered source) (λ e. by_name (same_text source a.source e))
  where
    by_name : source ≡ a.source → a.number ≡ 1 + count_of source sent
    by_name e = let one : suc (count_of a.source sent) ≡ 1 + count_of a.source sent = omega arith in next ∙ one ∙ ap (λ s. 1 + count_of s sent) (sym e)

-- what is found stays so behind one more
pub handled_more : (source : Text) (number : ℕ) (hs : List Handled) (k h : Handled) → handled_at source number hs ≡ Some h → handled_at source number (hs ++ k ∷ []) ≡ Some h
handled_more source number [] k h e = absurd (cc e)
handled_more source number (x ∷ hs) k h e = by_test (text_eq source x.arrival.source && (number == x.arrival.number)) e (handled_more source number hs k h)
  where
    by_test : (b : Bool) → cond b (Some x) (handled_at source number hs) ≡ Some h → (handled_at source number hs ≡ Some h → handled_at source number (hs ++ k ∷ []) ≡ Some h)
        → cond b (Some x) (handled_at source number (hs ++ k ∷ [])) ≡ Some h
    by_test true e rest = e
    by_test false e rest = rest e

-- a number above those of a source is not found
none_above : (source : Text) (number n : ℕ) (hs : List Handled) → numbers_of (of_source source (arrivals_of hs)) ≡ numbers_from n (of_source source (arrivals_of hs))
    → number ≡ n + count_of source (arrivals_of hs) → handled_at source number hs ≡ None
none_above source number n [] numbered above = refl
none_above source number n (x ∷ hs) numbered above = by_test (text_eq source x.arrival.source) numbered above (λ m. none_above source number m hs)
  where
    by_test : (b : Bool)
        → numbers_of (cond b (x.arrival ∷ of_source source (arrivals_of hs)) (of_source source (arrivals_of hs))) ≡ numbers_from n (cond b (x.arrival ∷ of_source source (arrivals_of hs)) (of_source source (arrivals_of hs)))
        → number ≡ n + length (cond b (x.arrival ∷ of_source source (arrivals_of hs)) (of_source source (arrivals_of hs)))
        → ((m : ℕ) → numbers_of (of_source source (arrivals_of hs)) ≡ numbers_from m (of_source source (arrivals_of hs)) → number ≡ m + count_of source (arrivals_of hs) → handled_at source number hs ≡ None)
        → cond (b && (number == x.arrival.number)) (Some x) (handled_at source number hs) ≡ None
    by_test false numbered above rest = rest n numbered above
    by_test true numbered above rest =
        let first : x.arrival.number ≡ n = first_number numbered in
        let other : (number == x.arrival.number) ≡ false = ne_eqb number x.arrival.number (λ e. omega (arith, e, first, above)) in
        let above : number ≡ suc n + count_of source (arrivals_of hs) = omega (arith, above) in
        ap (λ (b : Bool). cond b (Some x) (handled_at source number hs)) other ∙ rest (suc n) (later_numbers numbered) above

-- the last is found, where it has the next number of its source
pub handled_last : (hs : List Handled) (k : Handled) → AreNumbered (arrivals_of hs) → k.arrival.number ≡ suc (count_of k.arrival.source (arrivals_of hs)) → handled_at k.arrival.source k.arrival.number (hs ++ k ∷ []) ≡ Some k
handled_last hs k numbered next = behind hs (none_above k.arrival.source k.arrival.number 1 hs (numbered k.arrival.source) (omega (arith, next)))
  where
    own : text_eq k.arrival.source k.arrival.source && (k.arrival.number == k.arrival.number) ≡ true
    own = ap (λ b. b && (k.arrival.number == k.arrival.number)) (equal_itself text_order k.arrival.source) ∙ eq-eqb k.arrival.number k.arrival.number refl

    behind : (xs : List Handled) → handled_at k.arrival.source k.arrival.number xs ≡ None → handled_at k.arrival.source k.arrival.number (xs ++ k ∷ []) ≡ Some k
    behind [] e = ap (λ (b : Bool). cond b (Some k) None) own
    behind (x ∷ xs) e = by_test (text_eq k.arrival.source x.arrival.source && (k.arrival.number == x.arrival.number)) e (behind xs)
      where
        by_test : (b : Bool) → cond b (Some x) (handled_at k.arrival.source k.arrival.number xs) ≡ None
            → (handled_at k.arrival.source k.arrival.number xs ≡ None → handled_at k.arrival.source k.arrival.number (xs ++ k ∷ []) ≡ Some k)
            → cond b (Some x) (handled_at k.arrival.source k.arrival.number (xs ++ k ∷ [])) ≡ Some k
        by_test true e rest = absurd (cc e)
        by_test false e rest = rest e

-- what is kept of one arrival more
pub kept_more : {S : Type 0} (hs : List Handled) (k : Handled) (old new : IndexMap Text (Vec ℕ Global) S) → IsKept hs old → k.arrival.number ≡ suc (count_of k.arrival.source (arrivals_of hs))
    → ((q : Text) → places_in new q ≡ places_in old q ++ cond (text_eq k.arrival.source q) (length hs ∷ []) []) → IsKept (hs ++ k ∷ []) new
kept_more hs k old new kept next added = record {
  numbered = subst AreNumbered (sym (map-append (λ (h : Handled). h.arrival) hs (k ∷ []))) (numbered_more (arrivals_of hs) k.arrival kept.numbered next);
  places = λ source. added source ∙ ap (λ ps. ps ++ cond (text_eq k.arrival.source source) (length hs ∷ []) []) (kept.places source)
      ∙ ap (λ b. places_from 0 source hs ++ cond b (length hs ∷ []) []) (swapped k.arrival.source source) ∙ sym (places_more 0 source hs k ∙ ap (λ p. places_from 0 source hs ++ cond (text_eq source k.arrival.source) (p ∷ []) []) (from_none (length hs)));
}
  where
    from_none : (n : ℕ) → 0 + n ≡ n
    from_none n = omega arith

    swapped : (a b : Text) → text_eq a b ≡ text_eq b a
    swapped a b = by_test (text_eq a b) (text_eq b a) refl refl
      where
        by_test : (x y : Bool) → text_eq a b ≡ x → text_eq b a ≡ y → x ≡ y
        by_test true y is other = let e : a ≡ b = same_text a b is in sym (equal_itself text_order b) ∙ ap (λ t. text_eq b t) (sym e) ∙ other
        by_test false true is other = let e : b ≡ a = same_text b a other in sym is ∙ ap (λ t. text_eq t b) (sym e) ∙ equal_itself text_order b
        by_test false false is other = refl

-- as many arrivals of a source were handled as it has places
pub counted_some : {S : Type 0} (hs : List Handled) (m : IndexMap Text (Vec ℕ Global) S) (source : Text) (v : Vec ℕ Global) → IsKept hs m → get text_eq m source ≡ Some v → length v.items ≡ count_of source (arrivals_of hs)
counted_some hs m source v kept is = ap (λ (o : Option (Vec ℕ Global)). length (option_map_or (λ (v : Vec ℕ Global). v.items) o [])) (sym is) ∙ ap length (kept.places source) ∙ places_counted 0 source hs

pub counted_none : {S : Type 0} (hs : List Handled) (m : IndexMap Text (Vec ℕ Global) S) (source : Text) → IsKept hs m → get text_eq m source ≡ None → 0 ≡ count_of source (arrivals_of hs)
counted_none hs m source kept is = ap (λ (o : Option (Vec ℕ Global)). length (option_map_or (λ (v : Vec ℕ Global). v.items) o [])) (sym is) ∙ ap length (kept.places source) ∙ places_counted 0 source hs

-- the arrival of a number is found at the place that is kept
pub found_kept : {S : Type 0} (hs : List Handled) (m : IndexMap Text (Vec ℕ Global) S) (source : Text) (i : ℕ) → IsKept hs m → option_and_then (slice_get hs) (slice_get (places_in m source) i) ≡ handled_at source (1 + i) hs
found_kept hs m source i kept =
    ap (λ ps. option_and_then (slice_get hs) (slice_get ps i)) (kept.places source)
    ∙ found_at hs source hs 0 1 (λ j. let e : 0 + j ≡ j = omega arith in ap (slice_get hs) e) (kept.numbered source) i

-- what is kept stays, where the places of each source do
pub kept_same : {S : Type 0} (hs : List Handled) (old new : IndexMap Text (Vec ℕ Global) S) → IsKept hs old → ((q : Text) → places_in new q ≡ places_in old q) → IsKept hs new
kept_same hs old new kept same = record { numbered = kept.numbered; places = λ source. same source ∙ kept.places source }

-- by its number
pub found_number : {S : Type 0} (hs : List Handled) (m : IndexMap Text (Vec ℕ Global) S) (source : Text) (number : ℕ) (o : Option ℕ) → IsKept hs m → 1 ≤ number
    → o ≡ slice_get (places_in m source) (number - 1) → option_and_then (slice_get hs) o ≡ handled_at source number hs
found_number hs m source number o kept least is =
    let e : 1 + (number - 1) ≡ number = omega (arith, least) in
    ap (λ p. option_and_then (slice_get hs) p) is ∙ found_kept hs m source (number - 1) kept ∙ ap (λ n. handled_at source n hs) e
