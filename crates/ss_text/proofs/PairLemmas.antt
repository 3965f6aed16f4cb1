-- Lists of pairs that ascend by their keys, as look-ups see them, and ascending lists as tests see them.
use Rattle.std.proofs.Common.{◌≡◌, ◌∷◌, [], ℕ, Bool, true, false, cond, List, Option, Some, None, refl, sym, ◌∙◌, ap, subst, zero, suc, map}
use Rattle.std.specs.Prelude.{not, ◌||◌, ◌&&◌, insert, filter, option_map, is_some}
use Rattle.std.specs.List.{AllByRecursion, list_any}
use Rattle.std.specs.List.Sorted.{IsStrictlySortedBy}
use Rattle.std.specs.Map.{lookup}
use Rattle.std.specs.declared.cmp.Ordering.{Ordering}
use Rattle.std.specs.declared.cmp.Ordering.TheVariants.{Less, Equal, Greater}
use Rattle.std.specs.Ordering.{is_eq, ordering_reverse}
use Rattle.std.proofs.lemmas.Bool.{false≢true}
use Rattle.ss_text.specs.Ascending.{with_element, ascending}
use Rattle.ss_text.specs.Places.{changed_where}
use Rattle.ss_text.proofs.KeyLemmas.{IsKeyOrder, equal_itself, equal_is, less_differs, greater_turned, Lacks}

module _ {K : Type 0} {R : K → K → Ordering} {E : K → K → Bool} (o : IsKeyOrder R E) where
  -- the test is the same both ways
  pub turned : (j k : K) → E j k ≡ E k j
  turned j k = o.ties j k ∙ ap is_eq (o.total.antisymm j k) ∙ both (R k j) ∙ sym (o.ties k j)
    where
      both : (r : Ordering) → is_eq (ordering_reverse r) ≡ is_eq r
      both Less = refl
      both Equal = refl
      both Greater = refl

  module _ {X : Type 0} where
    -- with one pair more, whose key is new
    pub lookup_inserted : (es : List (K × X)) (i : ℕ) (k : K) (v : X) (q : K) → Lacks o (λ (e : K × X). e.0) k es → lookup (E q) (insert es i (k, v)) ≡ cond (E q k) (Some v) (lookup (E q) es)
    lookup_inserted es zero k v q h = refl
    lookup_inserted [] (suc i) k v q h = refl
    lookup_inserted (e ∷ es) (suc i) k v q h = rw (lookup_inserted es i k v q h.1) (swapped (E q k) refl)
      where
        swapped : (b : Bool) → E q k ≡ b → cond (E q e.0) (Some e.1) (cond (E q k) (Some v) (lookup (E q) es)) ≡ cond (E q k) (Some v) (cond (E q e.0) (Some e.1) (lookup (E q) es))
        swapped true s = rw (s, ap (λ (j : K). E j e.0) (equal_is o q k s) ∙ h.0) refl
        swapped false s = rw s refl

    -- without the pairs of a key
    pub lookup_kept : (es : List (K × X)) (k q : K) → E q k ≡ false → lookup (E q) (filter (λ (e : K × X). not (E k e.0)) es) ≡ lookup (E q) es
    lookup_kept [] k q h = refl
    lookup_kept (e ∷ es) k q h = kept (E k e.0) refl (lookup_kept es k q h)
      where
        kept : (b : Bool) → E k e.0 ≡ b → lookup (E q) (filter (λ (d : K × X). not (E k d.0)) es) ≡ lookup (E q) es → lookup (E q) (filter (λ (d : K × X). not (E k d.0)) (e ∷ es)) ≡ lookup (E q) (e ∷ es)
        kept true s rest = rw (s, ap (E q) (sym (equal_is o k e.0 s)) ∙ h) rest
        kept false s rest = rw (s, rest) refl

    pub lookup_gone : (es : List (K × X)) (k : K) → lookup (E k) (filter (λ (e : K × X). not (E k e.0)) es) ≡ None
    lookup_gone [] k = refl
    lookup_gone (e ∷ es) k = gone (E k e.0) refl (lookup_gone es k)
      where
        gone : (b : Bool) → E k e.0 ≡ b → lookup (E k) (filter (λ (d : K × X). not (E k d.0)) es) ≡ None → lookup (E k) (filter (λ (d : K × X). not (E k d.0)) (e ∷ es)) ≡ None
        gone true s rest = rw s rest
        gone false s rest = rw (s, s) rest

    -- with another value for a key
    pub lookup_changed : (f : X → X) (es : List (K × X)) (k q : K) → lookup (E q) (changed_where (λ (e : K × X). E k e.0) (λ e. (e.0, f e.1)) es) ≡ cond (E q k) (option_map f (lookup (E q) es)) (lookup (E q) es)
    lookup_changed f [] k q = same (E q k)
      where
        same : (b : Bool) → ◌≡◌ {A = Option X} None (cond b None None)
        same true = refl
        same false = refl
    lookup_changed f (e ∷ es) k q = changed (E k e.0) (E q e.0) (E q k) refl refl refl (lookup_changed f es k q)
      where
        changed : (a b c : Bool) → E k e.0 ≡ a → E q e.0 ≡ b → E q k ≡ c → lookup (E q) (changed_where (λ (d : K × X). E k d.0) (λ d. (d.0, f d.1)) es) ≡ cond (E q k) (option_map f (lookup (E q) es)) (lookup (E q) es)
            → lookup (E q) (changed_where (λ (d : K × X). E k d.0) (λ d. (d.0, f d.1)) (e ∷ es)) ≡ cond (E q k) (option_map f (lookup (E q) (e ∷ es))) (lookup (E q) (e ∷ es))
        changed true true true s t u rest = rw (s, t, u) refl
        changed true true false s t u rest = absurd (false≢true (sym u ∙ ap (E q) (equal_is o k e.0 s) ∙ t))
        changed true false true s t u rest = absurd (false≢true (sym t ∙ ap (E q) (sym (equal_is o k e.0 s)) ∙ u))
        changed true false false s t u rest = rw (s, t, u) (rw u at rest)
        changed false true true s t u rest = absurd (false≢true (sym s ∙ ap (λ (j : K). E j e.0) (sym (equal_is o q k u)) ∙ t))
        changed false true false s t u rest = rw (s, t, u) refl
        changed false false true s t u rest = rw (s, t, u) (rw u at rest)
        changed false false false s t u rest = rw (s, t, u) (rw u at rest)

    -- with each value changed
    pub lookup_mapped : {Y : Type 0} (test : K → Bool) (f : X → Y) (es : List (K × X)) → lookup test (map (λ (e : K × X). (e.0, f e.1)) es) ≡ option_map f (lookup test es)
    lookup_mapped test f [] = refl
    lookup_mapped test f (e ∷ es) = mapped (test e.0) refl (lookup_mapped test f es)
      where
        mapped : (b : Bool) → test e.0 ≡ b → lookup test (map (λ (d : K × X). (d.0, f d.1)) es) ≡ option_map f (lookup test es) → lookup test (map (λ (d : K × X). (d.0, f d.1)) (e ∷ es)) ≡ option_map f (lookup test (e ∷ es))
        mapped true s rest = rw s refl
        mapped false s rest = rw s rest

    -- whether there is one
    pub found_any : (es : List (K × X)) (q : K) → is_some (lookup (E q) es) ≡ list_any (λ (e : K × X). E q e.0) es
    found_any [] q = refl
    found_any (e ∷ es) q = found (E q e.0) refl (found_any es q)
      where
        found : (b : Bool) → E q e.0 ≡ b → is_some (lookup (E q) es) ≡ list_any (λ (d : K × X). E q d.0) es → is_some (lookup (E q) (e ∷ es)) ≡ list_any (λ (d : K × X). E q d.0) (e ∷ es)
        found true s rest = rw s refl
        found false s rest = rw s rest

    -- no key of a list that stands behind
    none_behind : (k : K) (es : List (K × X)) → AllByRecursion (λ j. R k j ≡ Less) (map (λ (e : K × X). e.0) es) → lookup (E k) es ≡ None
    none_behind k [] h = refl
    none_behind k (e ∷ es) h = rw (ahead k e.0 h.0) (none_behind k es h.1)
      where
        ahead : (j k : K) → R j k ≡ Less → E j k ≡ false
        ahead j k lt = turned j k ∙ less_differs o j k lt

    before_all : (j k : K) (es : List (K × X)) → R j k ≡ Less → AllByRecursion (λ q. R k q ≡ Less) (map (λ (e : K × X). e.0) es) → AllByRecursion (λ q. R j q ≡ Less) (map (λ (e : K × X). e.0) es)
    before_all j k [] lt h = tt
    before_all j k (e ∷ es) lt h = (o.total.trans j k e.0 lt h.0, before_all j k es lt h.1)

    -- pairs in order that look-ups see alike are the same
    pub same_pairs : (xs ys : List (K × X)) → IsStrictlySortedBy R (map (λ (e : K × X). e.0) xs) → IsStrictlySortedBy R (map (λ (e : K × X). e.0) ys) → ((q : K) → lookup (E q) xs ≡ lookup (E q) ys) → xs ≡ ys
    unfolding IsStrictlySortedBy
    same_pairs [] [] s t h = refl
    same_pairs [] (y ∷ ys) s t h = absurd (cc (rw (equal_itself o y.0) at (h y.0)))
    same_pairs (x ∷ xs) [] s t h = absurd (cc (rw (equal_itself o x.0) at (h x.0)))
    same_pairs (x ∷ xs) (y ∷ ys) s t h = heads (R x.0 y.0) refl (λ same_tails. same_pairs xs ys s.1 t.1 same_tails)
      where
        first : lookup (E x.0) (x ∷ xs) ≡ Some x.1
        first = rw (equal_itself o x.0) refl

        second : lookup (E y.0) (y ∷ ys) ≡ Some y.1
        second = rw (equal_itself o y.0) refl

        tails : x.0 ≡ y.0 → (q : K) → lookup (E q) xs ≡ lookup (E q) ys
        tails e q = tail (E q x.0) refl
          where
            tail : (b : Bool) → E q x.0 ≡ b → lookup (E q) xs ≡ lookup (E q) ys
            tail true u =
                let at : q ≡ x.0 = equal_is o q x.0 u in
                rw at (none_behind x.0 xs s.0 ∙ sym (subst (λ (k : K). lookup (E k) ys ≡ None) (sym e) (none_behind y.0 ys t.0)))
            tail false u =
                let v : E q y.0 ≡ false = subst (λ (k : K). E q k ≡ false) e u in
                rw (u, v) at (h q)

        heads : (r : Ordering) → R x.0 y.0 ≡ r → (((q : K) → lookup (E q) xs ≡ lookup (E q) ys) → xs ≡ ys) → x ∷ xs ≡ y ∷ ys
        heads Less lt rest = absurd (cc (first, h x.0, none_behind x.0 (y ∷ ys) (lt, before_all x.0 y.0 ys lt t.0)))
        heads Equal eq rest =
            let e : x.0 ≡ y.0 = o.same x.0 y.0 eq in
            let v : x.1 ≡ y.1 = cc (sym first ∙ h x.0 ∙ subst (λ (k : K). lookup (E k) (y ∷ ys) ≡ Some y.1) (sym e) second) in
            let pair : x ≡ y = λ i. (e i, v i) in
            cc (pair, rest (tails e))
        heads Greater gt rest =
            let lt : R y.0 x.0 ≡ Less = greater_turned o x.0 y.0 gt in
            absurd (cc (second, h y.0, none_behind y.0 (x ∷ xs) (lt, before_all y.0 x.0 xs lt s.0)))

  -- ascending lists that tests see alike are the same
  pub any_behind : (k : K) (ks : List K) → AllByRecursion (λ j. R k j ≡ Less) ks → list_any (E k) ks ≡ false
  any_behind k [] h = refl
  any_behind k (j ∷ js) h = rw (turned k j ∙ less_differs o k j h.0) (any_behind k js h.1)

  all_before : (j k : K) (ks : List K) → R j k ≡ Less → AllByRecursion (λ q. R k q ≡ Less) ks → AllByRecursion (λ q. R j q ≡ Less) ks
  all_before j k [] lt h = tt
  all_before j k (i ∷ ks) lt h = (o.total.trans j k i lt h.0, all_before j k ks lt h.1)

  pub same_keys : (xs ys : List K) → IsStrictlySortedBy R xs → IsStrictlySortedBy R ys → ((q : K) → list_any (E q) xs ≡ list_any (E q) ys) → xs ≡ ys
  unfolding IsStrictlySortedBy
  same_keys [] [] s t h = refl
  same_keys [] (y ∷ ys) s t h = absurd (false≢true (rw (equal_itself o y) at (h y)))
  same_keys (x ∷ xs) [] s t h = absurd (false≢true (sym (rw (equal_itself o x) at (h x))))
  same_keys (x ∷ xs) (y ∷ ys) s t h = heads (R x y) refl (λ same_tails. same_keys xs ys s.1 t.1 same_tails)
    where
      tails : x ≡ y → (q : K) → list_any (E q) xs ≡ list_any (E q) ys
      tails e q = tail (E q x) refl
        where
          tail : (b : Bool) → E q x ≡ b → list_any (E q) xs ≡ list_any (E q) ys
          tail true u =
              let at : q ≡ x = equal_is o q x u in
              rw at (any_behind x xs s.0 ∙ sym (subst (λ (k : K). list_any (E k) ys ≡ false) (sym e) (any_behind y ys t.0)))
          tail false u =
              let v : E q y ≡ false = subst (λ (k : K). E q k ≡ false) e u in
              rw (u, v) at (h q)

      heads : (r : Ordering) → R x y ≡ r → (((q : K) → list_any (E q) xs ≡ list_any (E q) ys) → xs ≡ ys) → x ∷ xs ≡ y ∷ ys
      heads Less lt rest = absurd (false≢true (sym (any_behind x (y ∷ ys) (lt, all_before x y ys lt t.0)) ∙ sym (h x) ∙ ap (λ b. b || list_any (E x) xs) (equal_itself o x)))
      heads Equal eq rest =
          let e : x ≡ y = o.same x y eq in
          cc (e, rest (tails e))
      heads Greater gt rest =
          let lt : R y x ≡ Less = greater_turned o x y gt in
          absurd (false≢true (sym (any_behind y (x ∷ xs) (lt, all_before y x xs lt s.0)) ∙ h y ∙ ap (λ b. b || list_any (E y) ys) (equal_itself o y)))

  -- the ascending list of some elements: in order, and with just these
  with_before : (j x : K) (ks : List K) → R j x ≡ Less → AllByRecursion (λ q. R j q ≡ Less) ks → AllByRecursion (λ q. R j q ≡ Less) (with_element R x ks)
  with_before j x [] lt h = (lt, tt)
  with_before j x (k ∷ ks) lt h = split (R x k) refl (with_before j x ks lt h.1)
    where
      split : (r : Ordering) → R x k ≡ r → AllByRecursion (λ q. R j q ≡ Less) (with_element R x ks) → AllByRecursion (λ q. R j q ≡ Less) (with_element R x (k ∷ ks))
      split Less e rest = rw e (lt, h)
      split Equal e rest = rw e h
      split Greater e rest = rw e (h.0, rest)

  with_ascends : (x : K) (ks : List K) → IsStrictlySortedBy R ks → IsStrictlySortedBy R (with_element R x ks)
  unfolding IsStrictlySortedBy
  with_ascends x [] s = (tt, tt)
  with_ascends x (k ∷ ks) s = split (R x k) refl (with_ascends x ks s.1)
    where
      split : (r : Ordering) → R x k ≡ r → IsStrictlySortedBy R (with_element R x ks) → IsStrictlySortedBy R (with_element R x (k ∷ ks))
      split Less e rest = rw e ((e, all_before x k ks e s.0), s)
      split Equal e rest = rw e s
      split Greater e rest = rw e (with_before k x ks (greater_turned o x k e) s.0, rest)

  pub ascending_ascends : (ks : List K) → IsStrictlySortedBy R (ascending R ks)
  unfolding IsStrictlySortedBy
  ascending_ascends [] = tt
  ascending_ascends (k ∷ ks) = with_ascends k (ascending R ks) (ascending_ascends ks)

  pub any_with : (q x : K) (ks : List K) → list_any (E q) (with_element R x ks) ≡ (E q x || list_any (E q) ks)
  any_with q x [] = refl
  any_with q x (k ∷ ks) = split (R x k) refl (any_with q x ks)
    where
      twice : (a b : Bool) → (a || b) ≡ (a || (a || b))
      twice true b = refl
      twice false b = refl

      swapped : (a b c : Bool) → (a || (b || c)) ≡ (b || (a || c))
      swapped true true c = refl
      swapped true false c = refl
      swapped false b c = refl

      split : (r : Ordering) → R x k ≡ r → list_any (E q) (with_element R x ks) ≡ (E q x || list_any (E q) ks) → list_any (E q) (with_element R x (k ∷ ks)) ≡ (E q x || list_any (E q) (k ∷ ks))
      split Less e rest = rw e refl
      split Equal e rest = rw (e, o.same x k e) (twice (E q k) (list_any (E q) ks))
      split Greater e rest = rw (e, rest) (swapped (E q k) (E q x) (list_any (E q) ks))

  pub any_ascending : (q : K) (ks : List K) → list_any (E q) (ascending R ks) ≡ list_any (E q) ks
  any_ascending q [] = refl
  any_ascending q (k ∷ ks) = any_with q k (ascending R ks) ∙ ap (λ b. E q k || b) (any_ascending q ks)

  -- a filter of an ascending list ascends, and has what passes
  pub any_filtered : (p : K → Bool) (q : K) (ks : List K) → list_any (E q) (filter p ks) ≡ (list_any (E q) ks && p q)
  any_filtered p q [] = refl
  any_filtered p q (k ∷ ks) = split (p k) (E q k) refl refl (any_filtered p q ks)
    where
      split : (b e : Bool) → p k ≡ b → E q k ≡ e → list_any (E q) (filter p ks) ≡ (list_any (E q) ks && p q) → list_any (E q) (filter p (k ∷ ks)) ≡ (list_any (E q) (k ∷ ks) && p q)
      split true true s t rest = rw (s, t, ap p (equal_is o q k t) ∙ s) refl
      split true false s t rest = rw (s, t) rest
      split false true s t rest = rw (s, t, rest, ap p (equal_is o q k t) ∙ s) (never (list_any (E q) ks))
        where
          never : (a : Bool) → (a && false) ≡ false
          never true = refl
          never false = refl
      split false false s t rest = rw (s, t) rest

  -- what holds of each that the test finds holds of each element, and the converse
  pub each_found : (Q : K → Type 0) (ks : List K) → ((q : K) → list_any (E q) ks ≡ true → Q q) → AllByRecursion Q ks
  each_found Q [] h = tt
  each_found Q (k ∷ ks) h = (h k (ap (λ b. b || list_any (E k) ks) (equal_itself o k)), each_found Q ks (λ q there. h q (ap (λ b. E q k || b) there ∙ all (E q k))))
    where
      all : (a : Bool) → (a || true) ≡ true
      all true = refl
      all false = refl

  pub found_each : (Q : K → Type 0) (ks : List K) (q : K) → AllByRecursion Q ks → list_any (E q) ks ≡ true → Q q
  found_each Q [] q h there = absurd (false≢true there)
  found_each Q (k ∷ ks) q h there = split (E q k) refl (λ e. found_each Q ks q h.1 (rw e at there))
    where
      split : (b : Bool) → E q k ≡ b → (E q k ≡ false → Q q) → Q q
      split true e rest = subst Q (sym (equal_is o q k e)) h.0
      split false e rest = rest e
