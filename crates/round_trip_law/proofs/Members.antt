-- The elements of lists: what is in lists that are made of others, and lists that have the same elements.
use Rattle.std.proofs.Common.{◌≡◌, ◌∙◌, inl, inr, Bool, true, List, [], ◌∷◌, map, refl, sym, subst}
use Rattle.std.specs.Prelude.{filter, flat_map}
use Rattle.std.specs.List.{list_any, list_all, AllByRecursion}
use Rattle.std.specs.declared.cmp.Ordering.{Ordering}
use Rattle.ss_text.specs.Ascending.{ascending}
use Rattle.ss_text.proofs.KeyLemmas.{IsKeyOrder, equal_itself, equal_is}
use Rattle.ss_text.proofs.PairLemmas.{any_ascending}
use Rattle.ss_text.proofs.SetLemmas.{SameElements}
use Rattle.view_meaning.proofs.OrderLemmas.{In, in_any, any_in, in_map, map_in, flat_in, in_flat, in_kept, kept_in, both_true}
use Rattle.view_stack.proofs.ScriptLemmas.{all_append}

-- lists of which each has the elements of the other
pub same_by : {A : Type 0} (xs ys : List A) → ((x : A) → In x xs → In x ys) → ((x : A) → In x ys → In x xs) → SameElements xs ys
same_by xs ys f g = record { same = λ p. both_true (list_any p xs) (list_any p ys) (half p xs ys f) (half p ys xs g) }
  where
    half : {A : Type 0} (p : A → Bool) (xs ys : List A) → ((x : A) → In x xs → In x ys) → list_any p xs ≡ true → list_any p ys ≡ true
    half p xs ys f h = let found = any_in p xs h in in_any p found.0 ys (f found.0 found.1) found.2

pub all_by : {A : Type 0} (P : A → Type 0) (xs : List A) → ((x : A) → In x xs → P x) → AllByRecursion P xs
all_by P [] h = tt
all_by P (x ∷ xs) h = (h x (inl refl), all_by P xs (λ y i. h y (inr i)))

pub all_flat : {A B : Type 0} (P : B → Type 0) (f : A → List B) (xs : List A) → AllByRecursion (λ x. AllByRecursion P (f x)) xs → AllByRecursion P (flat_map f xs)
all_flat P f [] h = tt
all_flat P f (x ∷ xs) h = all_append P (f x) (flat_map f xs) h.0 (all_flat P f xs h.1)

pub list_all_by : {A : Type 0} (p : A → Bool) (xs : List A) → ((x : A) → In x xs → p x ≡ true) → list_all p xs ≡ true
list_all_by p [] h = refl
list_all_by p (x ∷ xs) h = rw (h x (inl refl)) (list_all_by p xs (λ y i. h y (inr i)))

-- each once, ascending
module _ {K : Type 0} {R : K → K → Ordering} {E : K → K → Bool} (o : IsKeyOrder R E) where
  pub found_in : (k : K) (ks : List K) → list_any (E k) ks ≡ true → In k ks
  found_in k ks h = let found = any_in (E k) ks h in subst (λ (j : K). In j ks) (sym (equal_is o k found.0 found.2)) found.1

  pub in_ascending : (k : K) (ks : List K) → In k ks → In k (ascending R ks)
  in_ascending k ks i = found_in k (ascending R ks) (any_ascending o k ks ∙ in_any (E k) k ks i (equal_itself o k))

  pub ascending_in : (k : K) (ks : List K) → In k (ascending R ks) → In k ks
  ascending_in k ks i = found_in k ks (sym (any_ascending o k ks) ∙ in_any (E k) k (ascending R ks) i (equal_itself o k))

-- what stands under each label, each once, and the labels once each: the elements stay
module _ {A B K L : Type 0} {R : K → K → Ordering} {E : K → K → Bool} {S : L → L → Ordering} {F : L → L → Bool} (keys : IsKeyOrder R E) (labels : IsKeyOrder S F) (key : A → K) (label : A → L) (back : L → K → B) where
  abbrev pub under_labels : List A → List B
  under_labels xs = flat_map (λ (l : L). map (back l) (ascending R (map key (filter (λ (x : A). F l (label x)) xs)))) (ascending S (map label xs))

  pub regrouped : (xs : List A) → SameElements (under_labels xs) (map (λ (x : A). back (label x) (key x)) xs)
  regrouped xs = same_by (under_labels xs) (map (λ (x : A). back (label x) (key x)) xs) out again
    where
      own : L → List A
      own l = filter (λ (x : A). F l (label x)) xs

      out : (y : B) → In y (under_labels xs) → In y (map (λ (x : A). back (label x) (key x)) xs)
      out y i =
          let l = flat_in (λ (l : L). map (back l) (ascending R (map key (filter (λ (x : A). F l (label x)) xs)))) (ascending S (map label xs)) y i in
          let k = map_in (back l.0) y (ascending R (map key (filter (λ (x : A). F l.0 (label x)) xs))) l.2 in
          let x = map_in key k.0 (filter (λ (x : A). F l.0 (label x)) xs) (ascending_in keys k.0 (map key (filter (λ (x : A). F l.0 (label x)) xs)) k.1) in
          let kept = kept_in (λ (x : A). F l.0 (label x)) xs x.0 x.1 in
          let is : y ≡ back (label x.0) (key x.0) = k.2 ∙ (λ i. back (equal_is labels l.0 (label x.0) kept.1 i) (x.2 i)) in
          subst (λ (z : B). In z (map (λ (x : A). back (label x) (key x)) xs)) (sym is) (in_map (λ (x : A). back (label x) (key x)) x.0 xs kept.0)

      again : (y : B) → In y (map (λ (x : A). back (label x) (key x)) xs) → In y (under_labels xs)
      again y i =
          let x = map_in (λ (x : A). back (label x) (key x)) y xs i in
          let there = in_map key x.0 (filter (λ (z : A). F (label x.0) (label z)) xs) (in_kept (λ (z : A). F (label x.0) (label z)) xs x.0 x.1 (equal_itself labels (label x.0))) in
          let row = in_map (back (label x.0)) (key x.0) (ascending R (map key (filter (λ (z : A). F (label x.0) (label z)) xs))) (in_ascending keys (key x.0) (map key (filter (λ (z : A). F (label x.0) (label z)) xs)) there) in
          subst (λ (z : B). In z (under_labels xs)) (sym x.2)
          (in_flat (λ (l : L). map (back l) (ascending R (map key (filter (λ (x : A). F l (label x)) xs)))) (ascending S (map label xs)) (label x.0) (back (label x.0) (key x.0)) (in_ascending labels (label x.0) (map label xs) (in_map label x.0 xs x.1)) row)
