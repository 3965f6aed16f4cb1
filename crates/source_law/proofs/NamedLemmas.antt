-- Lists whose elements have different names: what is found in them, and in what order they come to stand.
use Rattle.std.proofs.Common.{◌≡◌, ◌+◌, ◌∷◌, ◌∙◌, [], ℕ, Bool, true, false, cond, List, Option, Some, None, refl, sym, ap, subst, suc, length, map, arith}
use Rattle.std.specs.Prelude.{◌||◌, ◌&&◌, filter, find, sum_by}
use Rattle.std.specs.List.{AllByRecursion, list_all}
use Rattle.std.specs.List.Sorted.{IsStrictlySortedBy}
use Rattle.std.specs.declared.cmp.Ordering.{Ordering}
use Rattle.std.specs.declared.cmp.Ordering.TheVariants.{Less, Equal, Greater}
use Rattle.std.specs.Ordering.{is_eq}
use Rattle.std.proofs.lemmas.Bool.{false_from_ne_true, true≢false, and_parts}
use Rattle.std.proofs.lemmas.List.Sums.{sum_by-cons}
use Rattle.ss_text.specs.Texts.{Text, text_cmp, text_eq, is_in}
use Rattle.ss_text.specs.Ascending.{by_order, with_element, ascending}
use Rattle.ss_text.proofs.KeyLemmas.{text_order, equal_itself, equal_is, Lacks, lacks_after, lacks_find, greater_turned, less_differs}
use Rattle.ss_text.specs.Label.{is_table_label}
use Rattle.schema_model.proofs.ReadyLemmas.{same_some}

pub same_text : (a b : Text) → text_eq a b ≡ true → a ≡ b
same_text a b h = equal_is text_order a b h

-- texts that differ, turned
pub differs_back : (a b : Text) → text_eq a b ≡ false → text_eq b a ≡ false
differs_back a b h = false_from_ne_true _ (λ e. true≢false (sym (ap (λ (x : Text). text_eq x b) (sym (same_text b a e)) ∙ equal_itself text_order b) ∙ h))

pub apart_texts : (a b : Text) → text_cmp a b ≡ Less → text_eq a b ≡ false
apart_texts a b h = differs_back b a (less_differs text_order a b h)

-- whether a text passes a test and is among others
pub in_kept : (p : Text → Bool) (x : Text) (xs : List Text) → is_in x (filter p xs) ≡ (p x && is_in x xs)
in_kept p x [] = none (p x)
  where
    none : (b : Bool) → false ≡ (b && false)
    none true = refl
    none false = refl
in_kept p x (y ∷ ys) = by_both (p y) (text_eq x y) refl refl (in_kept p x ys)
  where
    passed : (a : Bool) → p x ≡ true → true ≡ (p x && (true || a))
    passed a e = rw e refl

    by_both : (a b : Bool) → p y ≡ a → text_eq x y ≡ b → is_in x (filter p ys) ≡ (p x && is_in x ys) → is_in x (cond a (y ∷ filter p ys) (filter p ys)) ≡ (p x && (b || is_in x ys))
    by_both true true e same h = rw same (passed (is_in x ys) (ap p (same_text x y same) ∙ e))
    by_both true false e other h = rw other h
    by_both false true e same h = h ∙ rw (ap p (same_text x y same) ∙ e) refl
    by_both false false e other h = h

below_more : (x y : Text) (ks : List Text) → text_cmp x y ≡ Less → AllByRecursion (λ k. text_cmp y k ≡ Less) ks → AllByRecursion (λ k. text_cmp x k ≡ Less) ks
below_more x y [] h b = tt
below_more x y (k ∷ ks) h b = (text_order.total.trans x y k h b.0, below_more x y ks h b.1)

module _ {A : Type 0} (key : A → Text) where
  abbrev pub named : Text → List A → Option A
  named k xs = find (λ x. text_eq k (key x)) xs

  abbrev pub AscendByName : List A → Type 0
  AscendByName xs = IsStrictlySortedBy text_cmp (map key xs)

  some_none : {B : Type 0} (x : B) → Some x ≡ None → ⊥
  some_none x e = absurd (cc)

  first_named : (x : A) (xs : List A) → named (key x) (x ∷ xs) ≡ Some x
  first_named x xs = rw (equal_itself text_order (key x)) refl

  none_below : (x y : A) (ys : List A) → text_cmp (key x) (key y) ≡ Less → AllByRecursion (λ k. text_cmp (key y) k ≡ Less) (map key ys) → named (key x) (y ∷ ys) ≡ None
  none_below x y ys e h = lacks_find text_order key (key x) (y ∷ ys) (lacks_after text_order key (key x) x (y ∷ ys) refl (e, below_more (key x) (key y) (map key ys) e h))

  -- two lists that ascend by their names, and in which each name finds the same
  pub same_named : (xs ys : List A) → AscendByName xs → AscendByName ys → ((k : Text) → named k xs ≡ named k ys) → xs ≡ ys
  unfolding IsStrictlySortedBy
  same_named [] [] s t h = refl
  same_named [] (y ∷ ys) s t h = absurd (some_none y (sym (first_named y ys) ∙ sym (h (key y))))
  same_named (x ∷ xs) [] s t h = absurd (some_none x (sym (first_named x xs) ∙ h (key x)))
  same_named (x ∷ xs) (y ∷ ys) s t h = by_case (text_cmp (key x) (key y)) refl (λ alike. same_named xs ys s.1 t.1 alike)
    where
      later : key x ≡ key y → (k : Text) → named k xs ≡ named k ys
      later e k =
          elim (text_eq k (key x)) as (λ b. text_eq k (key x) ≡ b → cond b (Some x) (named k xs) ≡ cond (text_eq k (key y)) (Some y) (named k ys) → named k xs ≡ named k ys) [
            | true ↦ λ same _.
                let is : key x ≡ k = sym (same_text k (key x) same) in
                lacks_find text_order key k xs (lacks_after text_order key k x xs is s.0) ∙ sym (lacks_find text_order key k ys (lacks_after text_order key k y ys (sym e ∙ is) t.0))
            | false ↦ λ other eq. eq ∙ ap (λ b. cond b (Some y) (named k ys)) (ap (text_eq k) (sym e) ∙ other)
          ] refl (h k)

      by_case : (o : Ordering) → text_cmp (key x) (key y) ≡ o → (((k : Text) → named k xs ≡ named k ys) → xs ≡ ys) → x ∷ xs ≡ y ∷ ys
      by_case Less e rest = absurd (some_none x (sym (first_named x xs) ∙ h (key x) ∙ none_below x y ys e t.0))
      by_case Greater e rest = absurd (some_none y (sym (first_named y ys) ∙ sym (h (key y)) ∙ none_below y x xs (greater_turned text_order (key x) (key y) e) s.0))
      by_case Equal e rest =
          let is : key x ≡ key y = text_order.same (key x) (key y) e in
          let one : x ≡ y = same_some x y (sym (first_named x xs) ∙ h (key x) ∙ ap (λ b. cond b (Some y) (named (key x) ys)) (ap (λ (k : Text). text_eq k (key y)) is ∙ equal_itself text_order (key y))) in
          ap (λ (z : A). z ∷ xs) one ∙ ap (λ (zs : List A). y ∷ zs) (rest (later is))

  -- elements of different names
  abbrev pub AllDiffer : List A → Type 0
  AllDiffer [] = Unit {0}
  AllDiffer (x ∷ xs) = Lacks text_order key (key x) xs × AllDiffer xs

  abbrev pub by_key : A → A → Ordering
  by_key a b = text_cmp (key a) (key b)

  equal_not_lacked : (x y : A) → text_cmp (key x) (key y) ≡ Equal → text_eq (key x) (key y) ≡ false → ⊥
  equal_not_lacked x y e h = true≢false (sym (text_order.ties (key x) (key y) ∙ ap is_eq e) ∙ h)

  lacks_with : (k : Text) (x : A) (ys : List A) → text_eq k (key x) ≡ false → Lacks text_order key k ys → Lacks text_order key k (with_element by_key x ys)
  lacks_with k x [] h l = (h, tt)
  lacks_with k x (y ∷ ys) h l =
      elim (by_key x y) as (λ o. Lacks text_order key k (by_order o (x ∷ y ∷ ys) (y ∷ ys) (y ∷ with_element by_key x ys)))
      [ Less ↦ (h, l) | Equal ↦ l | Greater ↦ (l.0, lacks_with k x ys h l.1) ]

  lacks_ascending : (k : Text) (xs : List A) → Lacks text_order key k xs → Lacks text_order key k (ascending by_key xs)
  lacks_ascending k [] l = tt
  lacks_ascending k (x ∷ xs) l = lacks_with k x (ascending by_key xs) l.0 (lacks_ascending k xs l.1)

  -- an element of a new name, put among others
  pub named_with : (k : Text) (x : A) (ys : List A) → Lacks text_order key (key x) ys → named k (with_element by_key x ys) ≡ cond (text_eq k (key x)) (Some x) (named k ys)
  named_with k x [] l = refl
  named_with k x (y ∷ ys) l =
      elim (by_key x y) as (λ o. by_key x y ≡ o → named k (by_order o (x ∷ y ∷ ys) (y ∷ ys) (y ∷ with_element by_key x ys)) ≡ cond (text_eq k (key x)) (Some x) (named k (y ∷ ys))) [
        | Less ↦ λ _. refl
        | Equal ↦ λ e. absurd (equal_not_lacked x y e l.0)
        | Greater ↦ λ _. ap (cond (text_eq k (key y)) (Some y)) (named_with k x ys l.1) ∙ turned (text_eq k (key x)) (text_eq k (key y)) refl refl
      ] refl
    where
      turned : (a b : Bool) → text_eq k (key x) ≡ a → text_eq k (key y) ≡ b → cond b (Some y) (cond a (Some x) (named k ys)) ≡ cond a (Some x) (cond b (Some y) (named k ys))
      turned true true e f = absurd (true≢false (sym (ap (λ (t : Text). text_eq t (key y)) (sym (same_text k (key x) e)) ∙ f) ∙ l.0))
      turned true false e f = refl
      turned false true e f = refl
      turned false false e f = refl

  pub named_ascending : (k : Text) (xs : List A) → AllDiffer xs → named k (ascending by_key xs) ≡ named k xs
  named_ascending k [] d = refl
  named_ascending k (x ∷ xs) d = named_with k x (ascending by_key xs) (lacks_ascending (key x) xs d.0) ∙ ap (cond (text_eq k (key x)) (Some x)) (named_ascending k xs d.1)

  -- how many there are, and what they come to
  length_with : (x : A) (ys : List A) → Lacks text_order key (key x) ys → length (with_element by_key x ys) ≡ suc (length ys)
  length_with x [] l = refl
  length_with x (y ∷ ys) l =
      elim (by_key x y) as (λ o. by_key x y ≡ o → length (by_order o (x ∷ y ∷ ys) (y ∷ ys) (y ∷ with_element by_key x ys)) ≡ suc (suc (length ys))) [
        | Less ↦ λ _. refl
        | Equal ↦ λ e. absurd (equal_not_lacked x y e l.0)
        | Greater ↦ λ _. ap suc (length_with x ys l.1)
      ] refl

  pub length_ascending : (xs : List A) → AllDiffer xs → length (ascending by_key xs) ≡ length xs
  length_ascending [] d = refl
  length_ascending (x ∷ xs) d = length_with x (ascending by_key xs) (lacks_ascending (key x) xs d.0) ∙ ap suc (length_ascending xs d.1)

  sum_with : (g : A → ℕ) (x : A) (ys : List A) → Lacks text_order key (key x) ys → sum_by g (with_element by_key x ys) ≡ g x + sum_by g ys
  sum_with g x [] l = sum_by-cons g x []
  sum_with g x (y ∷ ys) l =
      elim (by_key x y) as (λ o. by_key x y ≡ o → sum_by g (by_order o (x ∷ y ∷ ys) (y ∷ ys) (y ∷ with_element by_key x ys)) ≡ g x + sum_by g (y ∷ ys)) [
        | Less ↦ λ _. sum_by-cons g x (y ∷ ys)
        | Equal ↦ λ e. absurd (equal_not_lacked x y e l.0)
        | Greater ↦ λ _. sum_by-cons g y (with_element by_key x ys) ∙ moved (g x) (g y) (sum_by g ys) (sum_by g (with_element by_key x ys)) (sum_by g (y ∷ ys)) (sum_with g x ys l.1) (sum_by-cons g y ys)
      ] refl
    where
      moved : (a b c d e : ℕ) → d ≡ a + c → e ≡ b + c → b + d ≡ a + e
      moved a b c d e p q = omega (arith, p, q)

  pub sum_ascending : (g : A → ℕ) (xs : List A) → AllDiffer xs → sum_by g (ascending by_key xs) ≡ sum_by g xs
  sum_ascending g [] d = refl
  sum_ascending g (x ∷ xs) d = sum_with g x (ascending by_key xs) (lacks_ascending (key x) xs d.0) ∙ joined (g x) (sum_by g (ascending by_key xs)) (sum_by g xs) (sum_by g (x ∷ xs)) (sum_ascending g xs d.1) (sum_by-cons g x xs)
    where
      joined : (a b c d : ℕ) → b ≡ c → d ≡ a + c → a + b ≡ d
      joined a b c d p q = omega (arith, p, q)

  all_below : (P : Text → Type 0) (x : A) (ys : List A) → P (key x) → AllByRecursion P (map key ys) → AllByRecursion P (map key (with_element by_key x ys))
  all_below P x [] p h = (p, tt)
  all_below P x (y ∷ ys) p h =
      elim (by_key x y) as (λ o. AllByRecursion P (map key (by_order o (x ∷ y ∷ ys) (y ∷ ys) (y ∷ with_element by_key x ys))))
      [ Less ↦ (p, h) | Equal ↦ h | Greater ↦ (h.0, all_below P x ys p h.1) ]

  ascends_with : (x : A) (ys : List A) → AscendByName ys → AscendByName (with_element by_key x ys)
  unfolding IsStrictlySortedBy
  ascends_with x [] s = (tt, tt)
  ascends_with x (y ∷ ys) s =
      elim (by_key x y) as (λ o. by_key x y ≡ o → AscendByName (by_order o (x ∷ y ∷ ys) (y ∷ ys) (y ∷ with_element by_key x ys))) [
        | Less ↦ λ e. ((e, below_more (key x) (key y) (map key ys) e s.0), s)
        | Equal ↦ λ _. s
        | Greater ↦ λ e. (all_below (λ k. text_cmp (key y) k ≡ Less) x ys (greater_turned text_order (key x) (key y) e) s.0, ascends_with x ys s.1)
      ] refl

  pub ascending_by_name : (xs : List A) → AscendByName (ascending by_key xs)
  unfolding IsStrictlySortedBy
  ascending_by_name [] = tt
  ascending_by_name (x ∷ xs) = ascends_with x (ascending by_key xs) (ascending_by_name xs)

  -- each element of a list stays one, once it ascends
  pub all_ascending : (P : A → Type 0) (xs : List A) → AllByRecursion P xs → AllByRecursion P (ascending by_key xs)
  all_ascending P [] h = tt
  all_ascending P (x ∷ xs) h = put x (ascending by_key xs) h.0 (all_ascending P xs h.1)
    where
      put : (x : A) (ys : List A) → P x → AllByRecursion P ys → AllByRecursion P (with_element by_key x ys)
      put x [] p h = (p, tt)
      put x (y ∷ ys) p h =
          elim (by_key x y) as (λ o. AllByRecursion P (by_order o (x ∷ y ∷ ys) (y ∷ ys) (y ∷ with_element by_key x ys)))
          [ Less ↦ (p, h) | Equal ↦ h | Greater ↦ (h.0, put x ys p h.1) ]

  -- what a name finds is one of the elements, and has that name
  pub found_in : (P : A → Type 0) (k : Text) (xs : List A) (x : A) → AllByRecursion P xs → named k xs ≡ Some x → P x × (key x ≡ k)
  found_in P k [] x each h = absurd (cc)
  found_in P k (y ∷ ys) x each h =
      elim (text_eq k (key y)) as (λ b. text_eq k (key y) ≡ b → cond b (Some y) (named k ys) ≡ Some x → P x × (key x ≡ k)) [
        | true ↦ λ e is. let one : y ≡ x = same_some y x is in subst (λ (z : A). P z × (key z ≡ k)) one (each.0, sym (same_text k (key y) e))
        | false ↦ λ _ is. found_in P k ys x each.1 is
      ] refl h

-- texts that ascend, with the same among them

-- names that are legal one by one
pub each_legal : {A : Type 0} (key : A → Text) (xs : List A) → list_all is_table_label (map key xs) ≡ true → AllByRecursion (λ x. is_table_label (key x) ≡ true) xs
each_legal key [] h = tt
each_legal key (x ∷ xs) h = let parts = and_parts (is_table_label (key x)) (list_all is_table_label (map key xs)) h in (parts.0, each_legal key xs parts.1)
