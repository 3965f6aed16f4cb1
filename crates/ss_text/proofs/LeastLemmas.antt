-- The least of a list is what an iterator's `min` gives of it.
use Rattle.std.proofs.Common.{◌≡◌, List, [], ◌∷◌, Option, Some, None, refl, ap, ◌∙◌}
use Rattle.std.specs.List.{fold, reduce}
use Rattle.std.specs.declared.cmp.Ordering.{Ordering}
use Rattle.std.specs.declared.cmp.Ordering.TheVariants.{Less, Equal, Greater}
use Rattle.std.specs.Cmp.{IsTotalOrder}
use Rattle.std.specs.FinMap.{IsAntisymmetric}
use Rattle.std.specs.Ordering.{min_by_ordering, ordering_reverse}
use Rattle.ss_text.specs.Ascending.{by_order, lesser, least}

module _ {A : Type 0} {R : A → A → Ordering} (o : IsTotalOrder R) (only : IsAntisymmetric R) where
  turned : (x y : A) → R x y ≡ Greater → R y x ≡ Less
  turned x y e = o.antisymm y x ∙ ap ordering_reverse e

  greater : (x y z : A) → R x y ≡ Greater → R y z ≡ Greater → R x z ≡ Greater
  greater x y z e f = o.antisymm x z ∙ ap ordering_reverse (o.trans z y x (turned y z f) (turned x y e))

  -- of two elements and one that may be there
  lesser_of_two : (x y : A) (l : Option A) → lesser R (min_by_ordering (R x y) x y) l ≡ lesser R x (lesser R y l)
  lesser_of_two x y None = by_case (R x y)
    where
      by_case : (r : Ordering) → Some (min_by_ordering r x y) ≡ by_order r (Some x) (Some x) (Some y)
      by_case Less = refl
      by_case Equal = refl
      by_case Greater = refl
  lesser_of_two x y (Some z) = by_case (R x y) refl (R y z) refl
    where
      by_case : (r : Ordering) → R x y ≡ r → (s : Ordering) → R y z ≡ s → lesser R (min_by_ordering r x y) (Some z) ≡ lesser R x (by_order s (Some y) (Some y) (Some z))
      by_case Less e Less f = rw (e, o.trans x y z e f) refl
      by_case Less e Equal f = rw (← only y z f, e) refl
      by_case Less e Greater f = refl
      by_case Equal e Less f = rw (rw (← only x y e) at f, e) refl
      by_case Equal e Equal f = rw (← only y z f, e) refl
      by_case Equal e Greater f = refl
      by_case Greater e Less f = rw (e, f) refl
      by_case Greater e Equal f = rw (e, f) refl
      by_case Greater e Greater f = rw (f, greater x y z e f) refl

  pub min_is_least : (xs : List A) → reduce (λ (x : A) (y : A). min_by_ordering (R x y) x y) xs ≡ least R xs
  min_is_least [] = refl
  min_is_least (x ∷ xs) = from x xs
    where
      from : (x : A) (xs : List A) → Some (fold (λ (x : A) (y : A). min_by_ordering (R x y) x y) x xs) ≡ least R (x ∷ xs)
      from x [] = refl
      from x (y ∷ ys) = from (min_by_ordering (R x y) x y) ys ∙ lesser_of_two x y (least R ys)
