-- Sorted facts once each, and those that come again, are as often as all of them.
use Rattle.std.proofs.Common.{◌≡◌, ◌+◌, ◌<◌, ℕ, Bool, true, false, cond, List, [], ◌∷◌, ◌++◌, length, refl, sym, ap, ◌∙◌, arith}
use Rattle.std.specs.List.{sum_by}
use Rattle.std.specs.List.Sorted.{IsPermutation, IsSorted}
use Rattle.std.specs.Ordering.{eq_by_cmp}
use Rattle.std.proofs.lemmas.List.Sorted.{sum_by-IsPermutation}
use Rattle.std.proofs.lemmas.List.Sums.{sum_by-cons, sum_by-append}
use Rattle.ss_text.specs.Ascending.{ascending}
use Rattle.flow_law.specs.Facts.{Fact}
use Rattle.flow_law.specs.FactOrder.{fact_cmp, fact_total}
use Rattle.flow_law.proofs.SameFacts.{fact_same}
use Rattle.fact_tables.specs.Counted.{EachAsOften, repeats_in}
use Rattle.fact_tables.proofs.SortedLemmas.{tail_sorted, equal_is, one_more}

pub none_repeat : (fs : List Fact) → length fs < 2 → repeats_in fs ≡ []
none_repeat [] lt = refl
none_repeat (x ∷ []) lt = refl
none_repeat (x ∷ y ∷ fs) lt = absurd (omega arith)

module _ (n : Fact → ℕ) where
  -- an element that equals the next is left out, and comes again
  with_next : (f g : Fact) (once again : List Fact) (b : Bool) → eq_by_cmp fact_cmp f g ≡ b → n f + sum_by n (once ++ again) ≡ sum_by n (cond b once (f ∷ once) ++ cond b (g ∷ again) again)
  with_next f g once again true h =
      rw (sum_by-append n once again, sum_by-append n once (g ∷ again), sum_by-cons n g again, equal_is fact_cmp fact_total fact_same f g h) (omega arith)
  with_next f g once again false h = sym (sum_by-cons n f (once ++ again))

  made_up : (fs : List Fact) → IsSorted fact_cmp fs → sum_by n fs ≡ sum_by n (ascending fact_cmp fs ++ repeats_in fs)
  made_up [] s = refl
  made_up (f ∷ []) s = refl
  made_up (f ∷ g ∷ fs) s =
      sum_by-cons n f (g ∷ fs) ∙ ap (λ m. n f + m) (made_up (g ∷ fs) (tail_sorted fact_cmp f (g ∷ fs) s))
      ∙ with_next f g (ascending fact_cmp (g ∷ fs)) (repeats_in (g ∷ fs)) (eq_by_cmp fact_cmp f g) refl
      ∙ ap (λ (xs : List Fact). sum_by n (xs ++ repeats_in (f ∷ g ∷ fs))) (sym (one_more fact_cmp fact_total fact_same f g fs s))

pub as_often : (fs sorted once repeats : List Fact) → IsPermutation fs sorted → IsSorted fact_cmp sorted → once ≡ ascending fact_cmp sorted → repeats ≡ repeats_in sorted → EachAsOften fs (once ++ repeats)
as_often fs sorted once repeats same s order again = λ n. sym (sum_by-IsPermutation n fs sorted same) ∙ rw (order, again) (made_up n sorted s)
