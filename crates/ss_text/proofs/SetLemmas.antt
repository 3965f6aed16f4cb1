-- Lists with the same elements, in whatever order and however often: what comes of them once ascending is the same.
use Rattle.std.proofs.Common.{◌≡◌, Bool, true, false, cond, List, [], ◌∷◌, ◌++◌, map, refl, sym, ap, ◌∙◌}
use Rattle.std.specs.Prelude.{◌||◌, ◌&&◌, Option, Some, None, filter, filter_map, slice_get}
use Rattle.std.specs.List.{cons_option}
use Rattle.std.specs.declared.cmp.Ordering.{Ordering}
use Rattle.std.specs.declared.cmp.Ordering.TheVariants.{Less, Equal, Greater}
use Rattle.std.specs.List.{list_any}
use Rattle.std.specs.Cmp.{IsTotalOrder}
use Rattle.std.specs.FinMap.{IsAntisymmetric}
use Rattle.std.specs.Ordering.{eq_by_cmp}
use Rattle.std.proofs.lemmas.List.Folds.{list_any-append}
use Rattle.ss_text.specs.Ascending.{by_order, with_element, ascending, lesser, least}
use Rattle.ss_text.proofs.AscendingLemmas.{ascending_same}

-- no test tells the two apart
pub record SameElements {A : Type 0} (xs ys : List A) : Type 0 where
  pub same : (p : A → Bool) → list_any p xs ≡ list_any p ys

pub same_itself : {A : Type 0} (xs : List A) → SameElements xs xs
same_itself xs = record { same = λ p. refl }

pub same_back : {A : Type 0} (xs ys : List A) → SameElements xs ys → SameElements ys xs
same_back xs ys h = record { same = λ p. sym (h.same p) }

pub same_append : {A : Type 0} (xs ys us vs : List A) → SameElements xs ys → SameElements us vs → SameElements (xs ++ us) (ys ++ vs)
same_append xs ys us vs h k = record { same = λ p. rw (list_any-append p xs us, list_any-append p ys vs, h.same p, k.same p) refl }

any_mapped : {A B : Type 0} (f : A → B) (p : B → Bool) (xs : List A) → list_any p (map f xs) ≡ list_any (λ (x : A). p (f x)) xs
any_mapped f p [] = refl
any_mapped f p (x ∷ xs) = ap (λ (b : Bool). p (f x) || b) (any_mapped f p xs)

pub same_map : {A B : Type 0} (f : A → B) (xs ys : List A) → SameElements xs ys → SameElements (map f xs) (map f ys)
same_map f xs ys h = record { same = λ p. any_mapped f p xs ∙ h.same (λ x. p (f x)) ∙ sym (any_mapped f p ys) }

any_kept : {A : Type 0} (b : Bool) (p : A → Bool) (x : A) (xs : List A) (r : Bool) → list_any p xs ≡ r → list_any p (cond b (x ∷ xs) xs) ≡ (b && p x) || r
any_kept true p x xs r h = ap (λ (c : Bool). p x || c) h
any_kept false p x xs r h = h

any_filtered : {A : Type 0} (q p : A → Bool) (xs : List A) → list_any p (filter q xs) ≡ list_any (λ (x : A). q x && p x) xs
any_filtered q p [] = refl
any_filtered q p (x ∷ xs) = any_kept (q x) p x (filter q xs) _ (any_filtered q p xs)

pub same_filter : {A : Type 0} (q : A → Bool) (xs ys : List A) → SameElements xs ys → SameElements (filter q xs) (filter q ys)
same_filter q xs ys h = record { same = λ p. any_filtered q p xs ∙ h.same (λ x. q x && p x) ∙ sym (any_filtered q p ys) }

passes : {B : Type 0} → (B → Bool) → Option B → Bool
passes p None = false
passes p (Some y) = p y

any_put : {B : Type 0} (p : B → Bool) (o : Option B) (ys : List B) (r : Bool) → list_any p ys ≡ r → list_any p (cons_option o ys) ≡ passes p o || r
unfolding passes
any_put p None ys r h = h
any_put p (Some y) ys r h = ap (λ (c : Bool). p y || c) h

any_filter_mapped : {A B : Type 0} (h : A → Option B) (p : B → Bool) (xs : List A) → list_any p (filter_map h xs) ≡ list_any (λ (x : A). passes p (h x)) xs
any_filter_mapped h p [] = refl
any_filter_mapped h p (x ∷ xs) = any_put p (h x) (filter_map h xs) _ (any_filter_mapped h p xs)

pub same_filter_map : {A B : Type 0} (h : A → Option B) (xs ys : List A) → SameElements xs ys → SameElements (filter_map h xs) (filter_map h ys)
same_filter_map h xs ys e = record { same = λ p. any_filter_mapped h p xs ∙ e.same (λ x. passes p (h x)) ∙ sym (any_filter_mapped h p ys) }

module _ {A : Type 0} {R : A → A → Ordering} (o : IsTotalOrder R) (only : IsAntisymmetric R) where
  pub ascending_of_same : (xs ys : List A) → SameElements xs ys → ascending R xs ≡ ascending R ys
  ascending_of_same xs ys h = ascending_same R o only xs ys (λ q. h.same (eq_by_cmp R q))

  any_with : (p : A → Bool) (x : A) (ys : List A) → list_any p (with_element R x ys) ≡ p x || list_any p ys
  any_with p x [] = refl
  any_with p x (y ∷ ys) = by_case (R x y) refl (any_with p x ys)
    where
      twice : (a b : Bool) → a || b ≡ a || (a || b)
      twice true b = refl
      twice false b = refl

      turned : (a b c : Bool) → b || (a || c) ≡ a || (b || c)
      turned true true c = refl
      turned true false c = refl
      turned false b c = refl

      by_case : (r : Ordering) → R x y ≡ r → list_any p (with_element R x ys) ≡ p x || list_any p ys
          → list_any p (by_order r (x ∷ y ∷ ys) (y ∷ ys) (y ∷ with_element R x ys)) ≡ p x || (p y || list_any p ys)
      by_case Less e h = refl
      by_case Equal e h = rw (only x y e) (twice (p y) (list_any p ys))
      by_case Greater e h = ap (λ (b : Bool). p y || b) h ∙ turned (p x) (p y) (list_any p ys)

  -- each once, ascending
  pub same_ascending : (xs : List A) → SameElements xs (ascending R xs)
  same_ascending xs = record { same = λ p. sym (any_ascending p xs) }
    where
      any_ascending : (p : A → Bool) (xs : List A) → list_any p (ascending R xs) ≡ list_any p xs
      any_ascending p [] = refl
      any_ascending p (x ∷ xs) = any_with p x (ascending R xs) ∙ ap (λ (b : Bool). p x || b) (any_ascending p xs)

  least_with : (x : A) (ys : List A) (l : Option A) → l ≡ slice_get ys 0 → lesser R x l ≡ slice_get (with_element R x ys) 0
  least_with x [] l e = rw e refl
  least_with x (y ∷ ys) l e = rw e (by_case (R x y) refl)
    where
      by_case : (r : Ordering) → R x y ≡ r → by_order r (Some x) (Some x) (Some y) ≡ slice_get (by_order r (x ∷ y ∷ ys) (y ∷ ys) (y ∷ with_element R x ys)) 0
      by_case Less e = refl
      by_case Equal e = ap Some (only x y e)
      by_case Greater e = refl

  -- the least stands first
  pub least_first : (xs : List A) → least R xs ≡ slice_get (ascending R xs) 0
  least_first [] = refl
  least_first (x ∷ xs) = least_with x (ascending R xs) (least R xs) (least_first xs)

  pub least_of_same : (xs ys : List A) → SameElements xs ys → least R xs ≡ least R ys
  least_of_same xs ys h = least_first xs ∙ ap (λ (zs : List A). slice_get zs 0) (ascending_of_same xs ys h) ∙ sym (least_first ys)
