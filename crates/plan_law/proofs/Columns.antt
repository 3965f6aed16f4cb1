-- Columns of combinations.
use Rattle.std.proofs.Common.{◌≡◌, ◌⊎◌, inl, inr, subst, ℕ, ◌==◌, List, [], ◌∷◌, ◌++◌, Bool, true, false, ◌&&◌, cond, refl, ap, sym, ◌∙◌, Option, Some, None}
use Rattle.std.specs.List.{list_all, filter_map, cons_option}
use Rattle.std.proofs.lemmas.Slice.Eq.{bytes_eq-Decides}
use Rattle.std.proofs.lemmas.Bool.Decides.{Decides-eqb}
use Rattle.std.proofs.lemmas.Bool.{and_from}
use Rattle.ss_text.specs.Texts.{Text, text_eq}
use Rattle.plan_law.specs.Kinds.{Place, Term}
use Rattle.plan_law.specs.Kinds.place
use Rattle.plan_law.specs.Kinds.term
use Rattle.view_def.specs.Query.{Query}
use Rattle.plan_law.specs.Columns.{Column, Combo, place_eq, term_eq, text_under, found, read, may_be, is_consistent}
use Rattle.view_meaning.specs.Operands.{resolved}

abbrev pub Has : {X : Type 0} → List X → X → Type 0
Has [] y = ⊥
Has (x ∷ xs) y = (x ≡ y) ⊎ Has xs y

pub has_left : {X : Type 0} (xs ys : List X) (y : X) → Has xs y → Has (xs ++ ys) y
has_left [] ys y h = absurd h
has_left (x ∷ xs) ys y (inl e) = inl e
has_left (x ∷ xs) ys y (inr h) = inr (has_left xs ys y h)

pub has_right : {X : Type 0} (xs ys : List X) (y : X) → Has ys y → Has (xs ++ ys) y
has_right [] ys y h = h
has_right (x ∷ xs) ys y h = inr (has_right xs ys y h)

pub has_either : {X : Type 0} (xs ys : List X) (y : X) → Has (xs ++ ys) y → Has xs y ⊎ Has ys y
has_either [] ys y h = inr h
has_either (x ∷ xs) ys y (inl e) = inl (inl e)
has_either {X} (x ∷ xs) ys y (inr h) = elim (has_either xs ys y h) as (λ _. Has (x ∷ xs) y ⊎ Has ys y) [ inl a ↦ inl (inr a) | inr b ↦ inr b ]

pub and_left : (a b : Bool) → (a && b) ≡ true → a ≡ true
and_left true b e = refl
and_left false b e = e

pub and_right : (a b : Bool) → (a && b) ≡ true → b ≡ true
and_right true b e = e
and_right false b e = cc

pub all_has : {X : Type 0} (p : X → Bool) (xs : List X) (x : X) → list_all p xs ≡ true → Has xs x → p x ≡ true
all_has p [] x e h = absurd h
all_has p (y ∷ xs) x e (inl same) = sym (ap p same) ∙ and_left (p y) (list_all p xs) e
all_has p (y ∷ xs) x e (inr h) = all_has p xs x (and_right (p y) (list_all p xs) e) h

pub all_from : {X : Type 0} (p : X → Bool) (xs : List X) → ((x : X) → Has xs x → p x ≡ true) → list_all p xs ≡ true
all_from p [] h = refl
all_from p (x ∷ xs) h = and_from (p x) (list_all p xs) (h x (inl refl)) (all_from p xs (λ y m. h y (inr m)))

-- what a filter_map gives comes from an element, and each element gives what it gives
pub has_given : {X Y : Type 0} (h : X → Option Y) (xs : List X) (x : X) (y : Y) → Has xs x → h x ≡ Some y → Has (filter_map h xs) y
has_given h [] x y m e = absurd m
has_given h (z ∷ xs) x y (inl same) e = rw (ap h same ∙ e) (inl refl)
has_given {X} {Y} h (z ∷ xs) x y (inr m) e = pass (h z) (has_given h xs x y m e)
  where
    pass : (o : Option Y) → Has (filter_map h xs) y → Has (cons_option o (filter_map h xs)) y
    pass None m = m
    pass (Some w) m = inr m

pub has_from : {X Y : Type 0} (h : X → Option Y) (xs : List X) (y : Y) → Has (filter_map h xs) y → (x : X) × (Has xs x) × (h x ≡ Some y)
has_from h [] y m = absurd m
has_from {X} {Y} h (z ∷ xs) y m = one (h z) refl m (has_from h xs y)
  where
    one : (o : Option Y) → h z ≡ o → Has (cons_option o (filter_map h xs)) y → (Has (filter_map h xs) y → (x : X) × (Has xs x) × (h x ≡ Some y)) → (x : X) × (Has (z ∷ xs) x) × (h x ≡ Some y)
    one None e m rest = let r = rest m in (r.0, inr r.1, r.2)
    one (Some w) e (inl same) rest = (z, inl refl, e ∙ ap Some same)
    one (Some w) e (inr m) rest = let r = rest m in (r.0, inr r.1, r.2)

pub texts_equal : (s t : Text) → text_eq s t ≡ true → s ≡ t
texts_equal s t = (bytes_eq-Decides s t).0

pub text_same : (t : Text) → text_eq t t ≡ true
text_same t = (bytes_eq-Decides t t).1 refl

pub number_same : (k : ℕ) → (k == k) ≡ true
number_same k = (Decides-eqb k k).1 refl

pub numbers_equal : (j k : ℕ) → (j == k) ≡ true → j ≡ k
numbers_equal j k = (Decides-eqb j k).0

pub places_equal : (p q : Place) → place_eq p q ≡ true → p ≡ q
places_equal (place.Fixed s) (place.Fixed t) e = ap place.Fixed (texts_equal s t e)
places_equal (place.Fixed s) (place.Var k) e = cc
places_equal (place.Var j) (place.Fixed t) e = cc
places_equal (place.Var j) (place.Var k) e = ap place.Var (numbers_equal j k e)

pub place_same : (p : Place) → place_eq p p ≡ true
place_same (place.Fixed t) = text_same t
place_same (place.Var k) = number_same k

pub terms_equal : (s t : Term) → term_eq s t ≡ true → s ≡ t
terms_equal (term.Literal s) (term.Literal t) e = ap term.Literal (texts_equal s t e)
terms_equal (term.Literal s) (term.Var k) e = cc
terms_equal (term.Literal s) (term.Cell k q) e = cc
terms_equal (term.Var j) (term.Literal t) e = cc
terms_equal (term.Var j) (term.Var k) e = ap term.Var (numbers_equal j k e)
terms_equal (term.Var j) (term.Cell k q) e = cc
terms_equal (term.Cell j p) (term.Literal t) e = cc
terms_equal (term.Cell j p) (term.Var k) e = cc
terms_equal (term.Cell j p) (term.Cell k q) e =
    let a = numbers_equal j k (and_left (j == k) (place_eq p q) e) in
    let b = places_equal p q (and_right (j == k) (place_eq p q) e) in
    cc

pub term_same : (t : Term) → term_eq t t ≡ true
term_same (term.Literal t) = text_same t
term_same (term.Var k) = number_same k
term_same (term.Cell k p) = and_from (k == k) (place_eq p p) (number_same k) (place_same p)

abbrev pub is_text : Option Text → Text → Bool
is_text None s = false
is_text (Some t) s = text_eq t s

pub is_text-to : (o : Option Text) (s : Text) → is_text o s ≡ true → o ≡ Some s
is_text-to None s e = cc
is_text-to (Some t) s e = ap Some (texts_equal t s e)

pub is_text-from : (o : Option Text) (s : Text) → o ≡ Some s → is_text o s ≡ true
is_text-from o s e = rw e (text_same s)

pub may_be-to : (o : Option Text) (s t : Text) → may_be o s ≡ true → o ≡ Some t → t ≡ s
may_be-to o s t e is = texts_equal t s (subst (λ (o : Option Text). may_be o s ≡ true) is e)

-- the first column of a term is a column; a term with a column has a first
pub under_has : (x : Combo) (t : Term) (s : Text) → text_under x t ≡ Some s → Has x (t, s)
under_has [] t s e = cc
under_has (c ∷ x) t s e = one (term_eq t c.0) refl e (under_has x t s)
  where
    one : (b : Bool) → term_eq t c.0 ≡ b → cond b (Some c.1) (text_under x t) ≡ Some s → (text_under x t ≡ Some s → Has x (t, s)) → Has (c ∷ x) (t, s)
    one true d e rest = let h = terms_equal t c.0 d in let f : c.1 ≡ s = cc in inl (rw (h, ← f) refl)
    one false d e rest = inr (rest e)

pub has_under : (x : Combo) (t : Term) (s : Text) → Has x (t, s) → (r : Text) × (text_under x t ≡ Some r)
has_under [] t s h = absurd h
has_under (c ∷ x) t s (inl e) = (c.1, rw (ap (λ (c : Column). term_eq t c.0) e ∙ term_same t) refl)
has_under (c ∷ x) t s (inr h) = one (term_eq t c.0) (has_under x t s h)
  where
    one : (b : Bool) → ((r : Text) × (text_under x t ≡ Some r)) → (r : Text) × (cond b (Some c.1) (text_under x t) ≡ Some r)
    one true r = (c.1, refl)
    one false r = r

pub under_more : (x y : Combo) (t : Term) (s : Text) → text_under x t ≡ Some s → text_under (x ++ y) t ≡ Some s
under_more [] y t s e = cc
under_more (c ∷ x) y t s e = one (term_eq t c.0) e (under_more x y t s)
  where
    one : (b : Bool) → cond b (Some c.1) (text_under x t) ≡ Some s → (text_under x t ≡ Some s → text_under (x ++ y) t ≡ Some s) → cond b (Some c.1) (text_under (x ++ y) t) ≡ Some s
    one true e rest = e
    one false e rest = rest e

pub found_more : (x y : Combo) (t : Term) (s : Text) → found x t ≡ Some s → found (x ++ y) t ≡ Some s
found_more x y (term.Literal t) s e = e
found_more x y (term.Var k) s e = under_more x y (term.Var k) s e
found_more x y (term.Cell k p) s e = under_more x y (term.Cell k p) s e

-- a longer combination says no less
pub may_more : (o p : Option Text) (s : Text) → ((t : Text) → o ≡ Some t → p ≡ Some t) → may_be p s ≡ true → may_be o s ≡ true
may_more None p s more e = refl
may_more (Some t) p s more e = rw (may_be-to p s t e (more t refl)) (text_same s)

pub consistent_start : (q : Query) (x y : Combo) → is_consistent q (x ++ y) ≡ true → is_consistent q x ≡ true
consistent_start q x y e =
    all_from (λ (c : Column). may_be (read q x c.0) c.1) x (λ c h.
    may_more (read q x c.0) (read q (x ++ y) c.0) c.1 (λ t. found_more x y (resolved q.decls c.0) t)
    (all_has (λ (c : Column). may_be (read q (x ++ y) c.0) c.1) (x ++ y) c e (has_left x y c h)))

-- in a consistent combination a column's text is what the combination says of its term
pub column_reads : (q : Query) (x : Combo) (t : Term) (r s : Text) → is_consistent q x ≡ true → Has x (t, s) → read q x t ≡ Some r → r ≡ s
column_reads q x t r s e h is =
    may_be-to (read q x t) s r (all_has (λ (c : Column). may_be (read q x c.0) c.1) x (t, s) e h) is

pub own_reads : (q : Query) (x : Combo) (t : Term) (s : Text) → is_consistent q x ≡ true → Has x (t, s) → read q x t ≡ text_under x t → read q x t ≡ Some s
own_reads q x t s e h own =
    let r = has_under x t s h in
    let f : r.0 ≡ s = column_reads q x t r.0 s e h (own ∙ r.1) in
    own ∙ r.1 ∙ ap Some f
