-- Lists of which one element changes, comes or goes.
use Rattle.std.proofs.Common.{◌≡◌, ℕ, ◌+◌, List, [], ◌∷◌, ◌++◌, true, false, cond, not, refl, arith, ap, sym, ◌∙◌, map, filter, find, Some, None, subst}
use Rattle.std.specs.List.{flat_map, AllByRecursion}
use Rattle.std.specs.List.Sorted.{IsStrictlySortedBy}
use Rattle.std.specs.declared.cmp.Ordering.TheVariants.{Less, Equal, Greater}
use Rattle.std.specs.Ordering.{is_eq}
use Rattle.ss_text.specs.Texts.{Text, Row, text_cmp, text_eq}
use Rattle.ss_text.specs.Ascending.{by_order, with_element}
use Rattle.ss_text.specs.Places.{changed_where}
use Rattle.ss_text.proofs.KeyLemmas.{text_order, equal_is}
use Rattle.operator_law.specs.declared.delta.Signed.{Signed}
use Rattle.operator_law.specs.Bags.{weigh, MovesBag, all_signed}
use Rattle.operator_law.proofs.Weights.{weigh-append}
use Rattle.operator_law.proofs.SignedRows.{come-up, go-up, come-down, go-down}

-- other rows stay beside those that move
pub beside : (zs xs ys : List Row) (ms : List Signed) → MovesBag xs ms ys → MovesBag (zs ++ xs) ms (zs ++ ys)
beside zs xs ys ms h f = omega (arith, h f, weigh-append f zs xs, weigh-append f zs ys)

pub before : (zs xs ys : List Row) (ms : List Signed) → MovesBag xs ms ys → MovesBag (xs ++ zs) ms (ys ++ zs)
before zs xs ys ms h f = omega (arith, h f, weigh-append f xs zs, weigh-append f ys zs)

-- what weighs more by some rows, or less
pub by_coming : (xs ys zs : List Row) → ((f : Row → ℕ) → weigh f ys ≡ weigh f zs + weigh f xs) → MovesBag xs (all_signed true zs) ys
by_coming xs ys zs h f = omega (arith, h f, come-up f zs, go-up f zs)

pub by_going : (xs ys zs : List Row) → ((f : Row → ℕ) → weigh f zs + weigh f ys ≡ weigh f xs) → MovesBag xs (all_signed false zs) ys
by_going xs ys zs h f = omega (arith, h f, come-down f zs, go-down f zs)

module _ {X : Type 0} (name : X → Text) (V : X → List Row) where
  -- those after a name have other names
  others : (k : Text) (x : X) (xs : List X) → text_eq k (name x) ≡ true → AllByRecursion (λ y. text_cmp (name x) y ≡ Less) (map name xs) → AllByRecursion (λ y. text_eq k (name y) ≡ false) xs
  others k x [] e h = tt
  others k x (y ∷ xs) e h =
      let same : k ≡ name x = equal_is text_order k (name x) e in
      let differs : text_eq (name x) (name y) ≡ false = text_order.ties (name x) (name y) ∙ ap is_eq h.0 in
      (rw same differs, others k x xs e h.1)

  changed_none : (k : Text) (g : X → X) (xs : List X) → AllByRecursion (λ y. text_eq k (name y) ≡ false) xs → changed_where (λ y. text_eq k (name y)) g xs ≡ xs
  changed_none k g [] h = refl
  changed_none k g (y ∷ xs) h = rw (h.0, changed_none k g xs h.1) refl

  filtered_all : (k : Text) (xs : List X) → AllByRecursion (λ y. text_eq k (name y) ≡ false) xs → filter (λ y. not (text_eq k (name y))) xs ≡ xs
  filtered_all k [] h = refl
  filtered_all k (y ∷ xs) h = rw (h.0, filtered_all k xs h.1) refl

  -- one is changed
  pub one_changes : (k : Text) (g : X → X) (xs : List X) (x : X) (ms : List Signed) → IsStrictlySortedBy text_cmp (map name xs) → find (λ y. text_eq k (name y)) xs ≡ Some x → MovesBag (V x) ms (V (g x)) → MovesBag (flat_map V xs) ms (flat_map V (changed_where (λ y. text_eq k (name y)) g xs))
  unfolding IsStrictlySortedBy
  one_changes k g [] x ms sorted found moved = absurd (cc)
  one_changes k g (y ∷ xs) x ms sorted found moved =
      elim (text_eq k (name y)) as (λ b. text_eq k (name y) ≡ b → cond b (Some y) (find (λ y. text_eq k (name y)) xs) ≡ Some x → MovesBag (V y ++ flat_map V xs) ms (V (cond b (g y) y) ++ flat_map V (changed_where (λ y. text_eq k (name y)) g xs))) [
        | true ↦ λ e is.
            let same : y ≡ x = cc in
            rw (changed_none k g xs (others k y xs e sorted.0)) (before (flat_map V xs) (V y) (V (g y)) ms (subst (λ z. MovesBag (V z) ms (V (g z))) (sym same) moved))
        | false ↦ λ e is. beside (V y) (flat_map V xs) _ ms (one_changes k g xs x ms sorted.1 is moved)
      ] refl found

  -- one comes
  weigh-comes : (f : Row → ℕ) (x : X) (xs : List X) → find (λ y. text_eq (name x) (name y)) xs ≡ None → weigh f (flat_map V (with_element (λ a b. text_cmp (name a) (name b)) x xs)) ≡ weigh f (V x) + weigh f (flat_map V xs)
  weigh-comes f x [] none = weigh-append f (V x) []
  weigh-comes f x (y ∷ xs) none =
      elim (text_cmp (name x) (name y)) as (λ r. text_cmp (name x) (name y) ≡ r → weigh f (flat_map V (by_order r (x ∷ y ∷ xs) (y ∷ xs) (y ∷ with_element (λ a b. text_cmp (name a) (name b)) x xs))) ≡ weigh f (V x) + weigh f (V y ++ flat_map V xs)) [
        | Less ↦ λ e. weigh-append f (V x) (V y ++ flat_map V xs)
        | Equal ↦ λ e.
            let same : text_eq (name x) (name y) ≡ true = text_order.ties (name x) (name y) ∙ ap is_eq e in
            let found : Some y ≡ None = rw same at none in
            absurd (cc)
        | Greater ↦ λ e.
            let differs : text_eq (name x) (name y) ≡ false = text_order.ties (name x) (name y) ∙ ap is_eq e in
            omega (
              arith,
              weigh-append f (V y) (flat_map V (with_element (λ a b. text_cmp (name a) (name b)) x xs)),
              weigh-append f (V y) (flat_map V xs),
              weigh-comes f x xs (rw differs at none),
            )
      ] refl

  pub one_comes : (x : X) (xs : List X) → find (λ y. text_eq (name x) (name y)) xs ≡ None → MovesBag (flat_map V xs) (all_signed true (V x)) (flat_map V (with_element (λ a b. text_cmp (name a) (name b)) x xs))
  one_comes x xs none = by_coming _ _ (V x) (λ f. weigh-comes f x xs none)

  -- one goes
  weigh-goes : (f : Row → ℕ) (k : Text) (xs : List X) (x : X) → IsStrictlySortedBy text_cmp (map name xs) → find (λ y. text_eq k (name y)) xs ≡ Some x → weigh f (V x) + weigh f (flat_map V (filter (λ y. not (text_eq k (name y))) xs)) ≡ weigh f (flat_map V xs)
  unfolding IsStrictlySortedBy
  weigh-goes f k [] x sorted found = absurd (cc)
  weigh-goes f k (y ∷ xs) x sorted found =
      elim (text_eq k (name y)) as (λ b. text_eq k (name y) ≡ b → cond b (Some y) (find (λ y. text_eq k (name y)) xs) ≡ Some x → weigh f (V x) + weigh f (flat_map V (cond (not b) (y ∷ filter (λ y. not (text_eq k (name y))) xs) (filter (λ y. not (text_eq k (name y))) xs))) ≡ weigh f (V y ++ flat_map V xs)) [
        | true ↦ λ e is.
            let same : y ≡ x = cc in
            omega (arith, ap (λ z. weigh f (V z)) same, ap (λ zs. weigh f (flat_map V zs)) (filtered_all k xs (others k y xs e sorted.0)), weigh-append f (V y) (flat_map V xs))
        | false ↦ λ e is.
            omega (
              arith,
              weigh-goes f k xs x sorted.1 is,
              weigh-append f (V y) (flat_map V (filter (λ y. not (text_eq k (name y))) xs)),
              weigh-append f (V y) (flat_map V xs),
            )
      ] refl found

  pub one_goes : (k : Text) (xs : List X) (x : X) → IsStrictlySortedBy text_cmp (map name xs) → find (λ y. text_eq k (name y)) xs ≡ Some x → MovesBag (flat_map V xs) (all_signed false (V x)) (flat_map V (filter (λ y. not (text_eq k (name y))) xs))
  one_goes k xs x sorted found = by_going _ _ (V x) (λ f. weigh-goes f k xs x sorted found)

  -- none of a name is left, and none comes of another
  pub still_none : (j k : Text) (xs : List X) → find (λ y. text_eq j (name y)) xs ≡ None → find (λ y. text_eq j (name y)) (filter (λ y. not (text_eq k (name y))) xs) ≡ None
  still_none j k [] h = refl
  still_none j k (y ∷ xs) h =
      elim (text_eq j (name y)) as (λ b. text_eq j (name y) ≡ b → cond b (Some y) (find (λ y. text_eq j (name y)) xs) ≡ None → find (λ y. text_eq j (name y)) (cond (not (text_eq k (name y))) (y ∷ filter (λ y. not (text_eq k (name y))) xs) (filter (λ y. not (text_eq k (name y))) xs)) ≡ None) [
        | true ↦ λ e is. absurd (cc)
        | false ↦ λ e is.
            elim (text_eq k (name y)) as (λ t. find (λ y. text_eq j (name y)) (cond (not t) (y ∷ filter (λ y. not (text_eq k (name y))) xs) (filter (λ y. not (text_eq k (name y))) xs)) ≡ None) [
              | true ↦ still_none j k xs is
              | false ↦ rw e (still_none j k xs is)
            ]
      ] refl h

-- the rows of moves of one sign
