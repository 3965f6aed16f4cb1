-- What a view needs, and what the first elements of a valuation lack of it.
use Rattle.std.proofs.Common.{◌≡◌, ◌<◌, ℕ, zero, suc, Bool, true, false, ◌&&◌, List, [], ◌∷◌, ◌++◌, Option, Some, None, length, map, refl, sym, ap, ◌∙◌}
use Rattle.std.specs.Prelude.{is_some, slice_get, option_map, unwrap_or, get_or}
use Rattle.std.proofs.lemmas.List.Folds.{list_all-append}
use Rattle.std.proofs.lemmas.Option.{slice_get_read, slice_get-map}
use Rattle.view_def.specs.declared.typed.Term.{Term}
use Rattle.view_def.specs.declared.written.Op.{Op}
use Rattle.view_def.specs.declared.typed.Cond.{Cond, Cond-F, fold-roll-Cond}
use Rattle.view_def.specs.declared.typed.Cond.TheVariants as cond_is
use Rattle.view_def.specs.declared.typed.Cond.TheVariants.{rolls-Compare}
use Rattle.view_def.specs.Conditions.{condition_of, layer, Condition, Conditions, AnyOf, AllOf, NotOf, Compares, none, more}
use Rattle.view_def.specs.Query.{Query}
use Rattle.view_def.specs.Terms.{terms_of, terms_of_each, terms_of_view}
use Rattle.view_meaning.specs.Elements.{Valuation}
use Rattle.view_meaning.specs.Terms.{Reading, value_of, are_defined, is_true, each_is_true}
use Rattle.view_meaning.specs.Truth.{known_if}
use Rattle.view_meaning.specs.Valuations.{counts}
use denote.Ref.{Bor}
use Rattle.valuation_meaning.specs.EarlyTests.{terms_now}
use Rattle.view_meaning.specs.Early.{is_bound, are_bound, listed, members_of, members, holds, NeedsMember, NeedsTerm, Ends}
use Rattle.valuation_meaning.proofs.BoundLemmas.{value_kept, defined_kept, truth_kept}
use Rattle.view_meaning.proofs.CountLemmas.{not_by_filter}

-- ---- what ends a branch
module _ (q : Query) (v : Valuation) where
  pub ended_by_member : (m : Condition) → NeedsMember q m → are_bound (length v) (terms_of m) ≡ true → holds (value_of v) m ≡ false → Ends q v
  ended_by_member m needs bound h w agree = needs (value_of (v ++ w)) (rw (defined_kept v w (terms_of m) bound, truth_kept v w m bound) h)

  pub ended_by_term : (t : Term) → NeedsTerm q t → is_bound (length v) t ≡ true → is_some (value_of v t) ≡ false → Ends q v
  ended_by_term t needs bound h w agree = needs (value_of (v ++ w)) (rw (value_kept v w t bound) h)

-- ---- what a view needs
grouped_again : (a b c d : Bool) → (a && b) && (c && d) ≡ (a && c) && (b && d)
grouped_again true true c d = refl
grouped_again true false true d = refl
grouped_again true false false d = refl
grouped_again false b c d = refl

and_false : (a : Bool) → a && false ≡ false
and_false true = refl
and_false false = refl

only : (i : ℕ) (x m : Condition) → slice_get (x ∷ []) i ≡ Some m → x ≡ m
only zero x m at = cc
only (suc i) x m at = absurd (cc)

module _ (r : Reading) where
  abbrev holds_each : Conditions → Bool
  holds_each cs = are_defined r (terms_of_each cs) && each_is_true r cs

  holds_more : (c : Condition) (cs : Conditions) → holds_each (more c cs) ≡ holds r c && holds_each cs
  holds_more c cs =
      rw (list_all-append (λ (t : Term). is_some (r t)) (terms_of c) (terms_of_each cs))
      (grouped_again (are_defined r (terms_of c)) (are_defined r (terms_of_each cs)) (is_true r c) (each_is_true r cs))

  one_fails : (cs : Conditions) (i : ℕ) (m : Condition) → slice_get (listed cs) i ≡ Some m → holds r m ≡ false → holds_each cs ≡ false
  one_fails none i m at h = absurd (cc)
  one_fails (more c cs) zero m at h =
      let same : c ≡ m = cc in
      holds_more c cs ∙ rw (same, h) refl
  one_fails (more c cs) (suc i) m at h = holds_more c cs ∙ rw (one_fails cs i m at h) (and_false (holds r c))

  fails_of : (x : Condition) (i : ℕ) (m : Condition) → slice_get (members_of x) i ≡ Some m → holds r m ≡ false → holds r x ≡ false
  fails_of (AllOf cs) i m at h = one_fails cs i m at h
  fails_of (AnyOf cs) i m at h = ap (holds r) (only i (AnyOf cs) m at) ∙ h
  fails_of (NotOf c) i m at h = ap (holds r) (only i (NotOf c) m at) ∙ h
  fails_of (Compares s op t) i m at h = ap (holds r) (only i (Compares s op t) m at) ∙ h

  undefined : (ts : List Term) (i : ℕ) (t : Term) → slice_get ts i ≡ Some t → is_some (r t) ≡ false → are_defined r ts ≡ false
  undefined [] i t at h = absurd (cc)
  undefined (u ∷ ts) zero t at h =
      let same : u ≡ t = cc in
      rw (same, h) refl
  undefined (u ∷ ts) (suc i) t at h = rw (undefined ts i t at h) (and_false (is_some (r u)))

module _ (q : Query) where
  fails_in : (o : Option Condition) → q.condition ≡ o → (i : ℕ) (m : Condition) → slice_get (members o) i ≡ Some m → NeedsMember q m
  fails_in None e i m at r h = absurd (cc)
  fails_in (Some x) e i m at r h = not_by_filter q r (rw e (fails_of r x i m at h))

  pub needs_member : (i : ℕ) (m : Condition) → slice_get (members q.condition) i ≡ Some m → NeedsMember q m
  needs_member i m at = fails_in q.condition refl i m at

  pub needs_term : (i : ℕ) (t : Term) → slice_get (terms_of_view q) i ≡ Some t → NeedsTerm q t
  unfolding counts
  needs_term i t at r h = rw (undefined r (terms_of_view q) i t at h) refl

-- ---- as the code reads them
pub needs_item : (q : Query) (xs : List Cond) (i : ℕ) (x : Cond) → map condition_of xs ≡ members q.condition → i < length xs → x ≡ get_or xs i x → NeedsMember q (condition_of x)
needs_item q xs i x all lt is =
    needs_member q i (condition_of x) (ap (λ l. slice_get l i) (sym all) ∙ slice_get-map condition_of xs i ∙ ap (option_map condition_of) (slice_get_read xs (length xs) i x refl lt is))

pub needs_term_item : (q : Query) (ts : List (Bor Term)) (i : ℕ) (t : Bor Term) → terms_now ts ≡ terms_of_view q → i < length ts → t ≡ get_or ts i t → NeedsTerm q t.now
needs_term_item q ts i t all lt is =
    needs_term q i t.now (ap (λ l. slice_get l i) (sym all) ∙ slice_get-map (λ (u : Bor Term). u.now) ts i ∙ ap (option_map (λ (u : Bor Term). u.now)) (slice_get_read ts (length ts) i t refl lt is))

pub unknown : (d b : Bool) → unwrap_or (known_if d b) false ≡ false → d && b ≡ false
unknown true b h = h
unknown false b h = refl

-- the layers of a condition that the code opens
pub compare_is : (s : Term) (op : Op) (t : Term) → condition_of (cond_is.Compare s op t) ≡ Compares s op t
compare_is s op t = ap condition_of (sym (rolls-Compare s op t)) ∙ fold-roll-Cond Condition layer (Cond-F.Compare s op t)
