-- The keys of a join stand at places of its rows.
use Rattle.std.proofs.Common.{◌≡◌, ◌⊎◌, inl, inr, subst, ◌<◌, ◌≤◌, ℕ, ◌+◌, suc, List, [], ◌∷◌, ◌++◌, length, map, Bool, true, false, ◌&&◌, refl, arith, ap, sym, ◌∙◌, Option, Some, None, get_or}
use Rattle.std.specs.Prelude.{position}
use Rattle.std.specs.List.{slice_get, list_all, filter_map}
use Rattle.std.specs.Option.{option_eq}
use Rattle.std.proofs.lemmas.List.Quantifiers.{position-Some}
use Rattle.std.proofs.lemmas.Option.{slice_get-get_or}
use Rattle.ss_text.specs.Texts.{Text, Row, text_eq}
use Rattle.plan_law.specs.Kinds.{Term}
use Rattle.plan_law.specs.Kinds.term
use Rattle.view_def.specs.Query.{Query}
use Rattle.view_meaning.specs.Operands.{resolved}
use Rattle.plan_law.specs.Columns.{term_eq, may_equal, equalities}
use Rattle.plan_law.specs.Links.{Source, Given, Left, Right, in_either, source_of, Link, link, places_from, column_link, equality_link, links, key_between, key_of, keys_of, keys_hold}
use Rattle.plan_law.proofs.Columns.{Has, has_either, has_from, texts_equal, text_same}
use Rattle.join_delta.specs.Joined.{matches}

-- the parts of a link
pub link_parts : (o p : Option Source) (l : Link) → link o p ≡ Some l → (o ≡ Some l.0) × (p ≡ Some l.1)
link_parts None p l e = cc
link_parts (Some a) None l e = cc
link_parts (Some a) (Some b) l e = let f : (a, b) ≡ l = cc in (ap (λ (l : Link). Some l.0) f, ap (λ (l : Link). Some l.1) f)

-- the cells at the places of a key are equal
abbrev pub key_holds : Row → Row → ℕ × ℕ → Bool
key_holds x y k = may_equal (slice_get x k.0) (slice_get y k.1)

module _ (q : Query) (h d : List Term) where
  abbrev InRange : Source → Type 0
  InRange (Given t) = Unit {0}
  InRange (Left i) = i < length h
  InRange (Right j) = j < length d

  by_places : (t : Term) (a : Source) → in_either (position (term_eq t) h) (position (term_eq t) d) ≡ Some a → InRange a
  by_places t a e = one (position (term_eq t) h) (position (term_eq t) d) refl refl e
    where
      one : (o p : Option ℕ) → position (term_eq t) h ≡ o → position (term_eq t) d ≡ p → in_either o p ≡ Some a → InRange a
      one (Some i) p e f g = let same : Left i ≡ a = cc in subst InRange same (position-Some (term_eq t) h i t e).0
      one None (Some j) e f g = let same : Right j ≡ a = cc in subst InRange same (position-Some (term_eq t) d j t f).0
      one None None e f g = cc

  source_in : (t : Term) (a : Source) → source_of h d t ≡ Some a → InRange a
  source_in (term.Literal s) a e = let same : Given s ≡ a = cc in subst InRange same tt
  source_in (term.Var k) a e = by_places (term.Var k) a e
  source_in (term.Cell k p) a e = by_places (term.Cell k p) a e

  left_in : (n : ℕ) (ts : List Term) → n + length ts ≤ length h → (c : Source × Term) → Has (places_from Left n ts) c → InRange c.0
  left_in n [] fits c m = absurd m
  left_in n (t ∷ ts) fits c (inl e) = subst (λ (c : Source × Term). InRange c.0) e (first n (length ts) (length h) fits)
    where
      first : (n k l : ℕ) → n + suc k ≤ l → n < l
      first n k l fits = omega arith
  left_in n (t ∷ ts) fits c (inr m) = left_in (suc n) ts (omega arith) c m

  right_in : (n : ℕ) (ts : List Term) → n + length ts ≤ length d → (c : Source × Term) → Has (places_from Right n ts) c → InRange c.0
  right_in n [] fits c m = absurd m
  right_in n (t ∷ ts) fits c (inl e) = subst (λ (c : Source × Term). InRange c.0) e (first n (length ts) (length d) fits)
    where
      first : (n k l : ℕ) → n + suc k ≤ l → n < l
      first n k l fits = omega arith
  right_in n (t ∷ ts) fits c (inr m) = right_in (suc n) ts (omega arith) c m

  link_in : (l : Link) → Has (links q h d) l → InRange l.0 × InRange l.1
  link_in l m = one (has_either (A ++ B) C l m)
    where
      A : List Link
      A = filter_map (column_link q h d) (places_from Left 0 h)

      B : List Link
      B = filter_map (column_link q h d) (places_from Right 0 d)

      C : List Link
      C = filter_map (equality_link q h d) (equalities q.condition)

      carried : (a b : Source) → Some a ≡ Some b → InRange a → InRange b
      carried a b e i = let same : a ≡ b = cc in subst InRange same i

      zero_plus : (n : ℕ) → 0 + n ≤ n
      zero_plus n = omega arith

      of_column : (c : Source × Term) → column_link q h d c ≡ Some l → InRange c.0 → InRange l.0 × InRange l.1
      of_column c e i = let p = link_parts (source_of h d (resolved q.decls c.1)) (Some c.0) l e in (source_in (resolved q.decls c.1) l.0 p.0, carried c.0 l.1 p.1 i)

      front : Has A l ⊎ Has B l → InRange l.0 × InRange l.1
      front (inl m) = let c = has_from (column_link q h d) (places_from Left 0 h) l m in of_column c.0 c.2 (left_in 0 h (zero_plus (length h)) c.0 c.1)
      front (inr m) = let c = has_from (column_link q h d) (places_from Right 0 d) l m in of_column c.0 c.2 (right_in 0 d (zero_plus (length d)) c.0 c.1)

      one : Has (A ++ B) l ⊎ Has C l → InRange l.0 × InRange l.1
      one (inl m) = front (has_either A B l m)
      one (inr m) =
          let e = has_from (equality_link q h d) (equalities q.condition) l m in
          let p = link_parts (source_of h d (resolved q.decls e.0.0)) (source_of h d (resolved q.decls e.0.1)) l e.2 in
          (source_in (resolved q.decls e.0.0) l.0 p.0, source_in (resolved q.decls e.0.1) l.1 p.1)

  abbrev KeyIn : ℕ × ℕ → Type 0
  KeyIn k = (k.0 < length h) × (k.1 < length d)

  key_in : (k : ℕ × ℕ) → Has (keys_of q h d) k → KeyIn k
  key_in k m = let l = has_from key_of (links q h d) k m in let i = link_in l.0 l.1 in kind l.0.0 l.0.1 l.2 i.0 i.1
    where
      kind : (a b : Source) → key_between a b ≡ Some k → InRange a → InRange b → KeyIn k
      kind (Left i) (Right j) e s t = let f : (i, j) ≡ k = cc in subst KeyIn f (s, t)
      kind (Right j) (Left i) e s t = let f : (i, j) ≡ k = cc in subst KeyIn f (t, s)
      kind (Left i) (Left k) e s t = cc
      kind (Left i) (Given u) e s t = cc
      kind (Given u) b e s t = cc
      kind (Right j) (Right i) e s t = cc
      kind (Right j) (Given u) e s t = cc

  module _ (x y : Row) (wide : length x ≡ length h) (wide' : length y ≡ length d) where
    turned : (s t : Text) → text_eq t s ≡ text_eq s t
    turned s t = one (text_eq t s) (text_eq s t) refl refl
      where
        one : (a b : Bool) → text_eq t s ≡ a → text_eq s t ≡ b → a ≡ b
        one true true e f = refl
        one false false e f = refl
        one true false e f = let g = texts_equal t s e in sym (text_same s) ∙ ap (text_eq s) (sym g) ∙ f
        one false true e f = let g = texts_equal s t f in sym e ∙ ap (text_eq t) g ∙ text_same t

    one_key : (k : ℕ × ℕ) → KeyIn k → option_eq text_eq (slice_get y k.1) (slice_get x k.0) ≡ key_holds x y k
    one_key k i =
        let left : slice_get x k.0 ≡ Some (get_or x k.0 []) = slice_get-get_or x k.0 [] (omega (arith, wide, i.0)) in
        let right : slice_get y k.1 ≡ Some (get_or y k.1 []) = slice_get-get_or y k.1 [] (omega (arith, wide', i.1)) in
        rw (left, right) (turned (get_or x k.0 []) (get_or y k.1 []))

    each_key : (ks : List (ℕ × ℕ)) → ((k : ℕ × ℕ) → Has ks k → KeyIn k) → matches (map (λ (k : ℕ × ℕ). k.0) ks) (map (λ (k : ℕ × ℕ). k.1) ks) x y ≡ list_all (key_holds x y) ks
    each_key [] in_range = refl
    each_key (k ∷ ks) in_range =
        ap (λ b. b && matches (map (λ (k : ℕ × ℕ). k.0) ks) (map (λ (k : ℕ × ℕ). k.1) ks) x y) (one_key k (in_range k (inl refl)))
        ∙ ap (λ b. key_holds x y k && b) (each_key ks (λ j m. in_range j (inr m)))

    pub keys_held : keys_hold q h d x y ≡ list_all (key_holds x y) (keys_of q h d)
    keys_held = each_key (keys_of q h d) key_in
