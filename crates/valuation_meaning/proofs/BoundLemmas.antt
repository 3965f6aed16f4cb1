-- What the first elements of a valuation bind keeps its value, whatever elements come behind them.
use Rattle.std.proofs.Common.{◌≡◌, ◌<◌, ◌≤◌, ℕ, zero, suc, Bool, true, false, ◌&&◌, List, [], ◌∷◌, ◌++◌, Option, Some, None, length, nat_lt, refl, sym, ap, ◌∙◌, arith}
use Rattle.std.specs.Prelude.{not, slice_get, option_and_then}
use Rattle.std.proofs.lemmas.List.Folds.{list_all-append}
use borrow.Author.Tests.{ltb-true}
use Rattle.ss_text.specs.Texts.{Text}
use Rattle.view_def.specs.declared.typed.Place.{Place}
use Rattle.view_def.specs.declared.typed.Place.TheVariants as place
use Rattle.view_def.specs.declared.typed.Term.{Term}
use Rattle.view_def.specs.declared.typed.Term.TheVariants as term
use Rattle.view_def.specs.Conditions.{Condition, Conditions, AnyOf, AllOf, NotOf, Compares, none, more}
use Rattle.view_def.specs.Terms.{terms_of, terms_of_each}
use Rattle.view_meaning.specs.Elements.{Element, Valuation, text_of, text_at, place_text, cell_at}
use Rattle.view_meaning.specs.Terms.{value_of, are_defined, is_true, some_is_true, each_is_true}
use Rattle.view_meaning.specs.Early.{is_bound_place, is_bound, are_bound}

pub kept_at : {A : Type 0} (v w : List A) (k : ℕ) → k < length v → slice_get (v ++ w) k ≡ slice_get v k
kept_at [] w k lt = absurd (omega arith)
kept_at (x ∷ v) w zero lt = refl
kept_at (x ∷ v) w (suc k) lt = kept_at v w k (omega arith)

pub last_at : {A : Type 0} (v w : List A) (x : A) → slice_get (v ++ x ∷ w) (length v) ≡ Some x
last_at [] w x = refl
last_at (y ∷ v) w x = last_at v w x

pub nothing_behind : {A : Type 0} (v : List A) (k : ℕ) → length v ≤ k → slice_get v k ≡ None
nothing_behind [] k le = refl
nothing_behind (x ∷ v) zero le = absurd (omega (arith, le))
nothing_behind (x ∷ v) (suc k) le = nothing_behind v k (omega (arith, le))

some_kept_at : {A : Type 0} (v w : List A) (k : ℕ) (x : A) → slice_get v k ≡ Some x → slice_get (v ++ w) k ≡ Some x
some_kept_at [] w k x e = absurd (cc)
some_kept_at (y ∷ v) w zero x e = e
some_kept_at (y ∷ v) w (suc k) x e = some_kept_at v w k x e

module _ (v w : Valuation) where
  text_kept : (k : ℕ) → nat_lt k (length v) ≡ true → text_at (v ++ w) k ≡ text_at v k
  text_kept k h = ap (option_and_then text_of) (kept_at v w k (ltb-true k (length v) h))

  pub place_kept : (p : Place) → is_bound_place (length v) p ≡ true → place_text (v ++ w) p ≡ place_text v p
  place_kept (place.Fixed t) h = refl
  place_kept (place.Var k) h = text_kept k h

  both : (a b : Bool) → a && b ≡ true → (a ≡ true) × (b ≡ true)
  both true true h = (refl, refl)
  both true false h = absurd (cc)
  both false b h = absurd (cc)

  pub value_kept : (t : Term) → is_bound (length v) t ≡ true → value_of (v ++ w) t ≡ value_of v t
  value_kept (term.Literal t) h = refl
  value_kept (term.Var k) h = text_kept k h
  value_kept (term.Cell k a) h =
      let hs = both (nat_lt k (length v)) (is_bound_place (length v) a) h in
      rw (place_kept a hs.1, kept_at v w k (ltb-true k (length v) hs.0)) refl

  pub defined_kept : (ts : List Term) → are_bound (length v) ts ≡ true → are_defined (value_of (v ++ w)) ts ≡ are_defined (value_of v) ts
  defined_kept [] h = refl
  defined_kept (t ∷ ts) h =
      let hs = both (is_bound (length v) t) (are_bound (length v) ts) h in
      rw (value_kept t hs.0, defined_kept ts hs.1) refl

  two_bound : (ts us : List Term) → are_bound (length v) (ts ++ us) ≡ true → (are_bound (length v) ts ≡ true) × (are_bound (length v) us ≡ true)
  two_bound ts us h = both (are_bound (length v) ts) (are_bound (length v) us) (sym (list_all-append (is_bound (length v)) ts us) ∙ h)

  mutual
    pub truth_kept : (m : Condition) → are_bound (length v) (terms_of m) ≡ true → is_true (value_of (v ++ w)) m ≡ is_true (value_of v) m
    truth_kept (AnyOf cs) h = some_kept cs h
    truth_kept (AllOf cs) h = each_kept cs h
    truth_kept (NotOf c) h = ap not (truth_kept c h)
    truth_kept (Compares s op t) h =
        let hs = both (is_bound (length v) s) (are_bound (length v) (t ∷ [])) h in
        let ht = both (is_bound (length v) t) true hs.1 in
        rw (value_kept s hs.0, value_kept t ht.0) refl

    some_kept : (cs : Conditions) → are_bound (length v) (terms_of_each cs) ≡ true → some_is_true (value_of (v ++ w)) cs ≡ some_is_true (value_of v) cs
    some_kept none h = refl
    some_kept (more c cs) h =
        let hs = two_bound (terms_of c) (terms_of_each cs) h in
        rw (truth_kept c hs.0, some_kept cs hs.1) refl

    each_kept : (cs : Conditions) → are_bound (length v) (terms_of_each cs) ≡ true → each_is_true (value_of (v ++ w)) cs ≡ each_is_true (value_of v) cs
    each_kept none h = refl
    each_kept (more c cs) h =
        let hs = two_bound (terms_of c) (terms_of_each cs) h in
        rw (truth_kept c hs.0, each_kept cs hs.1) refl

-- a cell that is there stays
module _ (v w : Valuation) where
  name_stays : (p : Place) (t : Text) → place_text v p ≡ Some t → place_text (v ++ w) p ≡ Some t
  name_stays (place.Fixed u) t e = e
  name_stays (place.Var k) t e = by_element (slice_get v k) refl
    where
      by_element : (o : Option Element) → slice_get v k ≡ o → text_at (v ++ w) k ≡ Some t
      by_element None at = absurd (cc (rw at at e))
      by_element (Some x) at = rw (some_kept_at v w k x at) (rw at at e)

  pub cell_stays : (j : ℕ) (a : Place) (t : Text) → cell_at v j a ≡ Some t → cell_at (v ++ w) j a ≡ Some t
  cell_stays j a t e = by_parts (place_text v a) refl (slice_get v j) refl
    where
      by_parts : (p : Option Text) → place_text v a ≡ p → (o : Option Element) → slice_get v j ≡ o → cell_at (v ++ w) j a ≡ Some t
      by_parts None named o at = absurd (cc (rw named at e))
      by_parts (Some name) named None at = absurd (cc (rw (named, at) at e))
      by_parts (Some name) named (Some x) at = rw (name_stays a name named, some_kept_at v w j x at) (rw (named, at) at e)

pub last_text : (v : Valuation) (e : Element) → text_at (v ++ e ∷ []) (length v) ≡ text_of e
last_text v e = rw (last_at v [] e) refl
