-- Where an element stands in an ascending list, looked for from the end.
use Rattle.std.proofs.Common.{◌≡◌, ◌<◌, ◌≤◌, ◌+◌, ◌∷◌, ◌++◌, ◌∙◌, [], ℕ, List, refl, sym, ap, zero, suc, length, map, take, drop, get_or, arith, append_assoc, insert}
use Rattle.std.proofs.lemmas.List.{append-nil, take_all, drop_all, take_more, drop_more}
use Rattle.std.specs.List.{AllByRecursion}
use Rattle.std.specs.List.Sorted.{IsStrictlySortedBy}
use Rattle.std.specs.Ordering.{ordering_reverse}
use Rattle.std.specs.Cmp.{IsTotalOrder}
use Rattle.std.specs.declared.cmp.Ordering.{Ordering}
use Rattle.std.specs.declared.cmp.Ordering.TheVariants.{Less, Equal, Greater}
use Rattle.std.specs.Cmp.Lexicographic.{nat_list_cmp_total}
use Rattle.std.proofs.lemmas.Cmp.{on_total}
use Rattle.ss_text.specs.Texts.{text_cmp}
use Rattle.ss_text.specs.Ascending.{by_order, with_element}
use Rattle.schema_model.specs.Catalogue.{RelationValue}
use Rattle.csv_catalog.specs.Loaded.{by_name}
use Rattle.csv_catalog.specs.Reading.{names_of}

-- elements ascend by a key where the keys ascend
pub ascend_by_key : {A K : Type 0} (R : K → K → Ordering) (key : A → K) (xs : List A) → IsStrictlySortedBy R (map key xs) → IsStrictlySortedBy (λ a b. R (key a) (key b)) xs
unfolding IsStrictlySortedBy
ascend_by_key R key [] h = tt
ascend_by_key R key (x ∷ xs) h = (above xs h.0, ascend_by_key R key xs h.1)
  where
    above : (ys : List _) → AllByRecursion (λ k. R (key x) k ≡ Less) (map key ys) → AllByRecursion (λ y. R (key x) (key y) ≡ Less) ys
    above [] h = tt
    above (y ∷ ys) h = (h.0, above ys h.1)

-- the place of an element is among the first
abbrev pub Among : {A : Type 0} → (A → A → Ordering) → A → List A → ℕ → Type 0
Among R r kept at = with_element R r kept ≡ with_element R r (take at kept) ++ drop at kept

module _ {A : Type 0} (R : A → A → Ordering) (o : IsTotalOrder R) where
  abbrev Below : A → List A → Type 0
  Below y xs = AllByRecursion (λ x. R x y ≡ Less) xs

  -- in an ascending list each element is above those before it
  below_at : (xs : List A) (i : ℕ) (y : A) → i < length xs → y ≡ get_or xs i y → IsStrictlySortedBy R xs → Below y (take i xs)
  unfolding IsStrictlySortedBy
  below_at [] i y lt is h = absurd (omega arith)
  below_at (x ∷ xs) zero y lt is h = tt
  below_at (x ∷ xs) (suc i) y lt is h = (at xs i (omega arith) h.0 is, below_at xs i y (omega arith) is h.1)
    where
      at : (ys : List A) (k : ℕ) → k < length ys → AllByRecursion (λ z. R x z ≡ Less) ys → y ≡ get_or ys k y → R x y ≡ Less
      at [] k lt h is = absurd (omega arith)
      at (z ∷ zs) zero lt h is = rw is h.0
      at (z ∷ zs) (suc k) lt h is = at zs k (omega arith) h.1 is

  -- before the last
  before_last : (r y : A) (xs : List A) → R r y ≡ Less → with_element R r (xs ++ y ∷ []) ≡ with_element R r xs ++ y ∷ []
  before_last r y [] e = rw e refl
  before_last r y (x ∷ xs) e =
      elim (R r x) as (λ c. by_order c (r ∷ x ∷ xs ++ y ∷ []) (x ∷ xs ++ y ∷ []) (x ∷ with_element R r (xs ++ y ∷ [])) ≡ by_order c (r ∷ x ∷ xs) (x ∷ xs) (x ∷ with_element R r xs) ++ y ∷ [])
      [ Less ↦ refl | Equal ↦ refl | Greater ↦ ap (λ t. x ∷ t) (before_last r y xs e) ]

  -- the last itself
  is_last : (r y : A) (xs : List A) → R r y ≡ Equal → Below y xs → with_element R r (xs ++ y ∷ []) ≡ xs ++ y ∷ []
  is_last r y [] e h = rw e refl
  is_last r y (x ∷ xs) e h =
      let greater : R r x ≡ Greater = o.congr r y x e ∙ o.antisymm y x ∙ ap ordering_reverse h.0 in
      rw greater (ap (λ t. x ∷ t) (is_last r y xs e h.1))

  -- after the last
  after_last : (r y : A) (xs : List A) → R r y ≡ Greater → Below y xs → with_element R r (xs ++ y ∷ []) ≡ (xs ++ y ∷ []) ++ r ∷ []
  after_last r y [] e h = rw e refl
  after_last r y (x ∷ xs) e h =
      let greater : R r x ≡ Greater = o.antisymm r x ∙ ap ordering_reverse (o.trans x y r h.0 (o.antisymm y r ∙ ap ordering_reverse e)) in
      rw greater (ap (λ t. x ∷ t) (after_last r y xs e h.1))

  pub among_all : (r : A) (kept : List A) (at : ℕ) → length kept ≤ at → Among R r kept at
  among_all r kept at past = rw (take_all at kept past, drop_all at kept past) (sym (append-nil _))

  module _ (r y : A) (kept : List A) (i at : ℕ) (next : at ≡ i + 1) (lt : i < length kept) (is : y ≡ get_or kept i y) (sorted : IsStrictlySortedBy R kept) where
    front : take at kept ≡ take i kept ++ y ∷ []
    front = ap (λ n. take n kept) next ∙ take_more kept i y lt ∙ ap (λ z. take i kept ++ z ∷ []) (sym is)

    back : drop i kept ≡ y ∷ drop at kept
    back = drop_more kept i y lt ∙ ap (λ z. z ∷ drop (i + 1) kept) (sym is) ∙ ap (λ n. y ∷ drop n kept) (sym next)

    whole : take at kept ++ drop at kept ≡ kept
    whole = ap (λ t. t ++ drop at kept) front ∙ append_assoc (take i kept) (y ∷ []) (drop at kept) ∙ ap (λ t. take i kept ++ t) (sym back) ∙ parts i kept
      where
        parts : (n : ℕ) (xs : List A) → take n xs ++ drop n xs ≡ xs
        parts zero xs = refl
        parts (suc n) [] = refl
        parts (suc n) (x ∷ xs) = ap (λ t. x ∷ t) (parts n xs)

    pub among_less : R r y ≡ Less → Among R r kept at → Among R r kept i
    among_less e h = h ∙ rw (front, before_last r y (take i kept) e) (append_assoc (with_element R r (take i kept)) (y ∷ []) (drop at kept) ∙ ap (λ t. with_element R r (take i kept) ++ t) (sym back))

    pub among_equal : R r y ≡ Equal → Among R r kept at → with_element R r kept ≡ kept
    among_equal e h = h ∙ ap (λ t. with_element R r t ++ drop at kept) front ∙ ap (λ t. t ++ drop at kept) (is_last r y (take i kept) e (below_at kept i y lt is sorted) ∙ sym front) ∙ whole

    pub among_greater : R r y ≡ Greater → Among R r kept at → insert kept at r ≡ with_element R r kept
    among_greater e h = sym (h ∙ ap (λ t. with_element R r t ++ drop at kept) front ∙ ap (λ t. t ++ drop at kept) (after_last r y (take i kept) e (below_at kept i y lt is sorted) ∙ ap (λ t. t ++ r ∷ []) (sym front))
        ∙ append_assoc (take at kept) (r ∷ []) (drop at kept))

  -- before all others
  pub among_none : (r : A) (kept : List A) (at : ℕ) → at ≤ 0 → Among R r kept at → insert kept at r ≡ with_element R r kept
  among_none r kept zero none h = sym h
  among_none r kept (suc at) none h = absurd (omega arith)

pub total_by_name : IsTotalOrder by_name
total_by_name = on_total (λ (r : RelationValue). r.name) nat_list_cmp_total

pub sorted_by_name : (rs : List RelationValue) → IsStrictlySortedBy text_cmp (names_of rs) → IsStrictlySortedBy by_name rs
sorted_by_name rs h = ascend_by_key text_cmp (λ (r : RelationValue). r.name) rs h
