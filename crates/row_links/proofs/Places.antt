-- A place that a reader answers is a live row's.
use Rattle.std.proofs.Common.{◌≡◌, ℕ, List, [], ◌∷◌, Bool, true, false, cond, nat_eq, Some, IsSome, is_some, filter, length, ◌+◌, suc, refl, sym, ap, ◌∙◌, arith}
use Rattle.std.proofs.lemmas.Bool.{eq-eqb}
use Rattle.row_links.specs.Live.{LinkedRows, AddsFirst, first_place, following, at_place}

later_at : {X : Type 0} (p : ℕ) (x : ℕ × X) (xs : List (ℕ × X)) → IsSome (at_place p xs) → IsSome (at_place p (x ∷ xs))
later_at p x xs there = elim (nat_eq x.0 p) as (λ b. IsSome (cond b (Some x.1) (at_place p xs))) [ true ↦ refl | false ↦ there ]

first_at : {X : Type 0} (p : ℕ) (x : ℕ × X) (xs : List (ℕ × X)) → first_place (x ∷ xs) ≡ Some p → IsSome (at_place p (x ∷ xs))
first_at p x xs e = ap (λ (b : Bool). is_some (cond b (Some x.1) (at_place p xs))) (eq-eqb x.0 p (let is : Some x.0 ≡ Some p = e in cc))

-- the first that passes a test
pub first_passing : {X : Type 0} (test : ℕ × X → Bool) (live : List (ℕ × X)) (p : ℕ) → first_place (filter test live) ≡ Some p → IsSome (at_place p live)
first_passing test [] p e = cc
first_passing test (x ∷ xs) p e = by (test x) refl (first_passing test xs p)
  where
    by : (b : Bool) → test x ≡ b → (first_place (filter test xs) ≡ Some p → IsSome (at_place p xs)) → IsSome (at_place p (x ∷ xs))
    by true t later = first_at p x xs (let is : first_place (x ∷ filter test xs) ≡ Some p = sym (ap (λ (b : Bool). first_place (cond b (x ∷ filter test xs) (filter test xs))) t) ∙ e in is)
    by false t later = later_at p x xs (later (sym (ap (λ (b : Bool). first_place (cond b (x ∷ filter test xs) (filter test xs))) t) ∙ e))

-- the first that passes a test behind a place
pub passing_behind : {X : Type 0} (test : ℕ × X → Bool) (place : ℕ) (live : List (ℕ × X)) (p : ℕ) → first_place (filter test (following place live)) ≡ Some p → IsSome (at_place p live)
passing_behind test place [] p e = cc
passing_behind test place (x ∷ xs) p e = by (nat_eq x.0 place) refl (passing_behind test place xs p)
  where
    by : (b : Bool) → nat_eq x.0 place ≡ b → (first_place (filter test (following place xs)) ≡ Some p → IsSome (at_place p xs)) → IsSome (at_place p (x ∷ xs))
    by true t later = later_at p x xs (first_passing test xs p (sym (ap (λ (b : Bool). first_place (filter test (cond b xs (following place xs)))) t) ∙ e))
    by false t later = later_at p x xs (later (sym (ap (λ (b : Bool). first_place (filter test (cond b xs (following place xs)))) t) ∙ e))

-- the first of all, and the first behind a place
pub first_live : {X : Type 0} (live : List (ℕ × X)) (p : ℕ) → first_place live ≡ Some p → IsSome (at_place p live)
first_live [] p e = cc
first_live (x ∷ xs) p e = first_at p x xs e

pub first_behind : {X : Type 0} (place : ℕ) (live : List (ℕ × X)) (p : ℕ) → first_place (following place live) ≡ Some p → IsSome (at_place p live)
first_behind place [] p e = cc
first_behind place (x ∷ xs) p e = by (nat_eq x.0 place) refl (first_behind place xs p)
  where
    by : (b : Bool) → nat_eq x.0 place ≡ b → (first_place (following place xs) ≡ Some p → IsSome (at_place p xs)) → IsSome (at_place p (x ∷ xs))
    by true t later = later_at p x xs (first_live xs p (sym (ap (λ (b : Bool). first_place (cond b xs (following place xs))) t) ∙ e))
    by false t later = later_at p x xs (later (sym (ap (λ (b : Bool). first_place (cond b xs (following place xs))) t) ∙ e))

-- the keys stay
pub same_keys : (old new : LinkedRows) → AddsFirst old new → new.keys ≡ old.keys
same_keys old new added = ap (λ (v : LinkedRows). v.keys) added.added

-- one row fewer waits
pub one_added : (old new : LinkedRows) → AddsFirst old new → length old.waiting ≡ length new.waiting + 1
one_added old new added = let e : length old.waiting ≡ suc (length added.others) = ap length added.waited in let f : length new.waiting ≡ length added.others = ap (λ (v : LinkedRows). length v.waiting) added.added in omega arith

-- the rows that are live and those that wait are the same ones, in the same order
