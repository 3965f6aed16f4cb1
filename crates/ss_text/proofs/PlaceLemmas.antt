-- Lists with one element changed, or one more at the end.
use Rattle.std.proofs.Common.{◌≡◌, ◌<◌, ◌+◌, ◌∷◌, ◌++◌, [], ℕ, List, refl, ap, zero, suc, length, map, arith, slice_index_or, slice_set}
use Rattle.std.specs.Prelude.{sum_by}
use Rattle.std.specs.List.{AllByRecursion}
use Rattle.std.proofs.lemmas.List.Sums.{sum_by-cons}
use Rattle.ss_text.specs.Places.{at_place}

module _ {A : Type 0} where
  pub set_at_place : (xs : List A) (i : ℕ) (d : A) (f : A → A) → slice_set xs i (f (slice_index_or xs i d)) ≡ at_place i f xs
  set_at_place [] i d f = refl
  set_at_place (x ∷ xs) zero d f = refl
  set_at_place (x ∷ xs) (suc i) d f = ap (λ t. x ∷ t) (set_at_place xs i d f)

  -- what was put back at a place
  pub put_back : (xs : List A) (i : ℕ) (r new : A) (f : A → A) → i < length xs → r ≡ slice_index_or xs i r → new ≡ f r → slice_set xs i new ≡ at_place i f xs
  put_back [] i r new f lt at e = absurd (omega arith)
  put_back (x ∷ xs) zero r new f lt at e = rw (e, at) refl
  put_back (x ∷ xs) (suc i) r new f lt at e = ap (λ t. x ∷ t) (put_back xs i r new f (omega arith) at e)

  pub length_at_place : (xs : List A) (i : ℕ) (f : A → A) → length (at_place i f xs) ≡ length xs
  length_at_place [] i f = refl
  length_at_place (x ∷ xs) zero f = refl
  length_at_place (x ∷ xs) (suc i) f = ap suc (length_at_place xs i f)

  pub map_at_place : {B : Type 0} (g : A → B) (f : A → A) → ((x : A) → g (f x) ≡ g x) → (xs : List A) (i : ℕ) → map g (at_place i f xs) ≡ map g xs
  map_at_place g f h [] i = refl
  map_at_place g f h (x ∷ xs) zero = rw (h x) refl
  map_at_place g f h (x ∷ xs) (suc i) = ap (λ t. g x ∷ t) (map_at_place g f h xs i)

  pub each_at : (P : A → Type 0) (xs : List A) (i : ℕ) (d : A) → i < length xs → AllByRecursion P xs → P (slice_index_or xs i d)
  each_at P [] i d lt h = absurd (omega arith)
  each_at P (x ∷ xs) zero d lt h = h.0
  each_at P (x ∷ xs) (suc i) d lt h = each_at P xs i d (omega arith) h.1

  pub each_at_place : (P : A → Type 0) (xs : List A) (i : ℕ) (d : A) (f : A → A) → AllByRecursion P xs → P (f (slice_index_or xs i d)) → AllByRecursion P (at_place i f xs)
  each_at_place P [] i d f h p = tt
  each_at_place P (x ∷ xs) zero d f h p = (p, h.1)
  each_at_place P (x ∷ xs) (suc i) d f h p = (h.0, each_at_place P xs i d f h.1 p)

  pub each_last : (P : A → Type 0) (xs : List A) (x : A) → AllByRecursion P xs → P x → AllByRecursion P (xs ++ x ∷ [])
  each_last P [] x h p = (p, tt)
  each_last P (y ∷ ys) x h p = (h.0, each_last P ys x h.1 p)

  pub one_more : (g : A → ℕ) (f : A → A) (xs : List A) (i : ℕ) (d : A) → i < length xs → g (f (slice_index_or xs i d)) ≡ suc (g (slice_index_or xs i d)) → sum_by g (at_place i f xs) ≡ suc (sum_by g xs)
  one_more g f [] i d lt h = absurd (omega arith)
  one_more g f (x ∷ xs) zero d lt h = rw (sum_by-cons g (f x) xs, sum_by-cons g x xs, h) (begins (g x) (sum_by g xs))
    where
      begins : (a b : ℕ) → suc a + b ≡ suc (a + b)
      begins a b = omega arith
  one_more g f (x ∷ xs) (suc i) d lt h = rw (sum_by-cons g x (at_place i f xs), sum_by-cons g x xs, one_more g f xs i d (omega arith) h) (next (g x) (sum_by g xs))
    where
      next : (a b : ℕ) → a + suc b ≡ suc (a + b)
      next a b = omega arith

  pub same : (g : A → ℕ) (f : A → A) → ((x : A) → g (f x) ≡ g x) → (xs : List A) (i : ℕ) → sum_by g (at_place i f xs) ≡ sum_by g xs
  same g f h [] i = refl
  same g f h (x ∷ xs) zero = rw (sum_by-cons g (f x) xs, sum_by-cons g x xs, h x) refl
  same g f h (x ∷ xs) (suc i) = rw (sum_by-cons g x (at_place i f xs), sum_by-cons g x xs, same g f h xs i) refl

  pub length_last : (xs : List A) (x : A) → length (xs ++ x ∷ []) ≡ suc (length xs)
  length_last [] x = refl
  length_last (y ∷ ys) x = ap suc (length_last ys x)

  pub map_last : {B : Type 0} (g : A → B) (xs : List A) (x : A) → map g (xs ++ x ∷ []) ≡ map g xs ++ g x ∷ []
  map_last g [] x = refl
  map_last g (y ∷ ys) x = ap (λ t. g y ∷ t) (map_last g ys x)
