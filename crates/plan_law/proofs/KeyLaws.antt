-- A join by keys, of flat rows that pass their own tests, is a stage.
use Rattle.std.proofs.Common.{◌≡◌, ◌⊎◌, inl, inr, subst, ℕ, suc, List, [], ◌∷◌, ◌++◌, length, filter, Bool, true, false, ◌&&◌, not, cond, refl, ap, sym, ◌∙◌, Option, Some, None, append-nil}
use Rattle.std.specs.Prelude.{zip, position}
use Rattle.std.specs.List.{slice_get, list_all, filter_map}
use Rattle.std.proofs.lemmas.Bool.{and_from}
use Rattle.ss_text.specs.Texts.{Text, Row}
use Rattle.plan_law.specs.Kinds.{Term}
use Rattle.plan_law.specs.Kinds.term
use Rattle.view_def.specs.Query.{Query}
use Rattle.plan_law.specs.Columns.{term_eq, may_equal, equalities, is_tested}
use Rattle.plan_law.specs.Links.{Source, Given, Left, Right, in_either, source_of, source_text, Link, link, places_from, column_link, equality_link, links, link_holds, is_left, is_right, key_between, key_of, is_own, keys_of, own_links, keys_hold, own_holds}
use Rattle.plan_law.proofs.Columns.{Has, has_left, has_right, has_either, has_given, has_from, and_left, and_right, all_has, all_from, texts_equal, text_same}
use Rattle.plan_law.proofs.Agree.{same_test}
use Rattle.plan_law.proofs.LinkLaws.{both, tested_links}
use Rattle.plan_law.proofs.KeyPlaces.{link_parts, key_holds, keys_held}
use Rattle.view_meaning.specs.Operands.{resolved}

pub has_filtered : {X : Type 0} (p : X → Bool) (xs : List X) (x : X) → Has xs x → p x ≡ true → Has (filter p xs) x
has_filtered p [] x m e = absurd m
has_filtered p (y ∷ xs) x (inl same) e = rw (ap p same ∙ e) (inl same)
has_filtered {X} p (y ∷ xs) x (inr m) e = one (p y) (has_filtered p xs x m e)
  where
    one : (b : Bool) → Has (filter p xs) x → Has (cond b (y ∷ filter p xs) (filter p xs)) x
    one true m = inr m
    one false m = m

pub has_unfiltered : {X : Type 0} (p : X → Bool) (xs : List X) (x : X) → Has (filter p xs) x → (Has xs x) × (p x ≡ true)
has_unfiltered p [] x m = absurd m
has_unfiltered {X} p (y ∷ xs) x m = one (p y) refl m (has_unfiltered p xs x)
  where
    one : (b : Bool) → p y ≡ b → Has (cond b (y ∷ filter p xs) (filter p xs)) x → (Has (filter p xs) x → (Has xs x) × (p x ≡ true)) → (Has (y ∷ xs) x) × (p x ≡ true)
    one true e (inl same) rest = (inl same, sym (ap p same) ∙ e)
    one true e (inr m) rest = let r = rest m in (inr r.0, r.1)
    one false e m rest = let r = rest m in (inr r.0, r.1)

equal_turned : (o p : Option Text) → may_equal o p ≡ true → may_equal p o ≡ true
equal_turned None None e = refl
equal_turned None (Some s) e = refl
equal_turned (Some s) None e = refl
equal_turned (Some s) (Some t) e = let d = texts_equal s t e in rw d (text_same t)

abbrev Truth : Bool → Type 0
Truth true = Unit {0}
Truth false = ⊥

not_both : true ≡ false → ⊥
not_both e = subst Truth e tt

-- what stands on the left stands there whatever the right
source_old : (h d : List Term) (t : Term) (a : Source) → source_of h d t ≡ Some a → is_right a ≡ false → source_of h [] t ≡ Some a
source_old h d t a e old = by_term t e
  where
    one : (o p : Option ℕ) → in_either o p ≡ Some a → in_either o None ≡ Some a
    one (Some i) p e = e
    one None None e = cc
    one None (Some j) e = let same : Right j ≡ a = cc in let f : is_right (Right j) ≡ false = ap is_right same ∙ old in cc

    by_term : (t : Term) → source_of h d t ≡ Some a → source_of h [] t ≡ Some a
    by_term (term.Literal s) e = e
    by_term (term.Var k) e = one (position (term_eq (term.Var k)) h) (position (term_eq (term.Var k)) d) e
    by_term (term.Cell k p) e = one (position (term_eq (term.Cell k p)) h) (position (term_eq (term.Cell k p)) d) e

abbrev is_old : Link → Bool
is_old l = not (is_right l.0) && not (is_right l.1)

not_right : (a : Source) → not (is_right a) ≡ true → is_right a ≡ false
not_right (Given t) e = refl
not_right (Left i) e = refl
not_right (Right j) e = cc

linked : (a b : Source) (o p : Option Source) (l : Link) → o ≡ Some l.0 → p ≡ Some l.1 → link o p ≡ Some l
linked a b o p l e f = rw (e, f) refl

pub right_place : (n : ℕ) (ts : List Term) (c : Source × Term) → Has (places_from Right n ts) c → is_right c.0 ≡ true
right_place n [] c m = absurd m
right_place n (t ∷ ts) c (inl e) = sym (ap (λ (c : Source × Term). is_right c.0) e)
right_place n (t ∷ ts) c (inr m) = right_place (suc n) ts c m

module _ (q : Query) (h d : List Term) where
  old_link : (l : Link) → Has (links q h d) l → is_old l ≡ true → Has (links q h []) l
  old_link l m old = one (has_either (A d ++ B d) (C d) l m)
    where
      A : List Term → List Link
      A = λ d. filter_map (column_link q h d) (places_from Left 0 h)

      B : List Term → List Link
      B = λ d. filter_map (column_link q h d) (places_from Right 0 d)

      C : List Term → List Link
      C = λ d. filter_map (equality_link q h d) (equalities q.condition)

      left_old : is_right l.0 ≡ false
      left_old = not_right l.0 (and_left (not (is_right l.0)) (not (is_right l.1)) old)

      right_old : is_right l.1 ≡ false
      right_old = not_right l.1 (and_right (not (is_right l.0)) (not (is_right l.1)) old)

      of_column : (Source × Term) × Unit {0} → Has (A d) l → Has (A []) l
      of_column u m =
          let c = has_from (column_link q h d) (places_from Left 0 h) l m in
          let p = link_parts (source_of h d (resolved q.decls c.0.1)) (Some c.0.0) l c.2 in
          has_given (column_link q h []) (places_from Left 0 h) c.0 l c.1 (linked l.0 l.1 (source_of h [] (resolved q.decls c.0.1)) (Some c.0.0) l (source_old h d (resolved q.decls c.0.1) l.0 p.0 left_old) p.1)

      of_right : Has (B d) l → ⊥
      of_right m =
          let c = has_from (column_link q h d) (places_from Right 0 d) l m in
          let p = link_parts (source_of h d (resolved q.decls c.0.1)) (Some c.0.0) l c.2 in
          let r : is_right c.0.0 ≡ true = right_place 0 d c.0 c.1 in
          let same : c.0.0 ≡ l.1 = cc in
          let f : is_right l.1 ≡ true = sym (ap is_right same) ∙ r in
          not_both (sym f ∙ right_old)

      of_equality : Has (C d) l → Has (C []) l
      of_equality m =
          let e = has_from (equality_link q h d) (equalities q.condition) l m in
          let p = link_parts (source_of h d (resolved q.decls e.0.0)) (source_of h d (resolved q.decls e.0.1)) l e.2 in
          has_given (equality_link q h []) (equalities q.condition) e.0 l e.1 (linked l.0 l.1 (source_of h [] (resolved q.decls e.0.0)) (source_of h [] (resolved q.decls e.0.1)) l (source_old h d (resolved q.decls e.0.0) l.0 p.0 left_old) (source_old h d (resolved q.decls e.0.1) l.1 p.1 right_old))

      front : Has (A d) l ⊎ Has (B d) l → Has (A [] ++ B []) l
      front (inl m) = has_left (A []) (B []) l (of_column ((l.0, term.Literal []), tt) m)
      front (inr m) = absurd (of_right m)

      one : Has (A d ++ B d) l ⊎ Has (C d) l → Has (links q h []) l
      one (inl m) = has_left (A [] ++ B []) (C []) l (front (has_either (A d) (B d) l m))
      one (inr m) = has_right (A [] ++ B []) (C []) l (of_equality m)

  module _ (x y : Row) (wide : length x ≡ length h) (wide' : length y ≡ length d) (left_tested : is_tested q (zip h x) ≡ true) where
    own_same : (l : Link) → is_own l ≡ true → link_holds [] y l ≡ link_holds x y l
    own_same l own = ap (λ (o : Option Text). may_equal o (source_text [] y l.1)) (text_same_of l.0 (and_left (not (is_left l.0)) (not (is_left l.1)) own)) ∙ ap (may_equal (source_text x y l.0)) (text_same_of l.1 (and_right (not (is_left l.0)) (not (is_left l.1)) own))
      where
        text_same_of : (a : Source) → not (is_left a) ≡ true → source_text [] y a ≡ source_text x y a
        text_same_of (Given t) e = refl
        text_same_of (Left i) e = cc
        text_same_of (Right j) e = refl

    old_holds : (l : Link) → Has (links q h d) l → is_old l ≡ true → link_holds x y l ≡ true
    old_holds l m old =
        let t : list_all (link_holds x []) (links q h []) ≡ true = sym (tested_links q h [] x [] wide refl) ∙ ap (is_tested q) (append-nil (zip h x)) ∙ left_tested in
        sym (ap (λ (o : Option Text). may_equal o (source_text x [] l.1)) (text_of l.0 (and_left (not (is_right l.0)) (not (is_right l.1)) old)) ∙ ap (may_equal (source_text x y l.0)) (text_of l.1 (and_right (not (is_right l.0)) (not (is_right l.1)) old)))
        ∙ all_has (link_holds x []) (links q h []) l t (old_link l m old)
      where
        text_of : (a : Source) → not (is_right a) ≡ true → source_text x [] a ≡ source_text x y a
        text_of (Given t) e = refl
        text_of (Left i) e = refl
        text_of (Right j) e = cc

    -- each link is old, of the right row alone, or a key
    each_link : own_holds q h d y ≡ true → list_all (key_holds x y) (keys_of q h d) ≡ true → (l : Link) → Has (links q h d) l → link_holds x y l ≡ true
    each_link own keys l m = kind l.0 l.1 refl refl
      where
        as_own : is_own l ≡ true → link_holds x y l ≡ true
        as_own e = sym (own_same l e) ∙ all_has (link_holds [] y) (own_links q h d) l own (has_filtered is_own (links q h d) l m e)

        as_key : (k : ℕ × ℕ) → key_of l ≡ Some k → key_holds x y k ≡ true
        as_key k e = all_has (key_holds x y) (keys_of q h d) k keys (has_given key_of (links q h d) l k m e)

        kind : (a b : Source) → l.0 ≡ a → l.1 ≡ b → link_holds x y l ≡ true
        kind (Left i) (Right j) e f = rw (e, f) (as_key (i, j) (rw (e, f) refl))
        kind (Right j) (Left i) e f = rw (e, f) (equal_turned (slice_get x i) (slice_get y j) (as_key (i, j) (rw (e, f) refl)))
        kind (Left i) (Left k) e f = old_holds l m (rw (e, f) refl)
        kind (Left i) (Given t) e f = old_holds l m (rw (e, f) refl)
        kind (Given t) (Left i) e f = old_holds l m (rw (e, f) refl)
        kind (Given s) (Given t) e f = as_own (rw (e, f) refl)
        kind (Given s) (Right j) e f = as_own (rw (e, f) refl)
        kind (Right j) (Given t) e f = as_own (rw (e, f) refl)
        kind (Right i) (Right j) e f = as_own (rw (e, f) refl)

    key_link : (l : Link) (k : ℕ × ℕ) → key_of l ≡ Some k → link_holds x y l ≡ true → key_holds x y k ≡ true
    key_link l k = kind l.0 l.1
      where
        kind : (a b : Source) → key_between a b ≡ Some k → may_equal (source_text x y a) (source_text x y b) ≡ true → key_holds x y k ≡ true
        kind (Left i) (Right j) e t = let f : (i, j) ≡ k = cc in subst (λ (k : ℕ × ℕ). key_holds x y k ≡ true) f t
        kind (Right j) (Left i) e t = let f : (i, j) ≡ k = cc in subst (λ (k : ℕ × ℕ). key_holds x y k ≡ true) f (equal_turned (slice_get y j) (slice_get x i) t)
        kind (Left i) (Left k) e t = cc
        kind (Left i) (Given s) e t = cc
        kind (Given s) b e t = cc
        kind (Right j) (Right i) e t = cc
        kind (Right j) (Given s) e t = cc

    -- where the left row is tested, the two are where the right one passes its own tests and the keys hold
    pub tested_keys : is_tested q (both q h d x y wide wide') ≡ (own_holds q h d y && keys_hold q h d x y)
    tested_keys =
        tested_links q h d x y wide wide'
        ∙ same_test (list_all (link_holds x y) (links q h d)) (own_holds q h d y && each)
        (λ t. and_from (own_holds q h d y) each
        (all_from (link_holds [] y) (own_links q h d) (λ l m. let r = has_unfiltered is_own (links q h d) l m in own_same l r.1 ∙ all_has (link_holds x y) (links q h d) l t r.0))
        (all_from (key_holds x y) (keys_of q h d) (λ k m. let r = has_from key_of (links q h d) k m in key_link r.0 k r.2 (all_has (link_holds x y) (links q h d) r.0 t r.1))))
        (λ e. all_from (link_holds x y) (links q h d) (each_link (and_left (own_holds q h d y) each e) (and_right (own_holds q h d y) each e)))
        ∙ ap (λ b. own_holds q h d y && b) (sym (keys_held q h d x y wide wide'))
      where
        each : Bool
        each = list_all (key_holds x y) (keys_of q h d)
