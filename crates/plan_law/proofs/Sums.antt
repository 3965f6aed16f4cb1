-- Sums over names that are distinct.
use Rattle.std.proofs.Common.{◌≡◌, inl, inr, subst, ℕ, ◌+◌, suc, List, [], ◌∷◌, map, Bool, true, false, cond, refl, arith, ap, sym, ◌∙◌, Option, Some, None}
use Rattle.std.specs.Prelude.{option_to_list, find, position, zip}
use Rattle.std.specs.List.{slice_get, position_from, AllByRecursion, IsDistinct}
use Rattle.std.specs.List.Sorted.{IsStrictlySortedBy}
use Rattle.std.specs.Option.{option_and_then, option_map}
use Rattle.std.specs.Ordering.{eq_by_cmp}
use Rattle.std.proofs.lemmas.Map.Keys.{IsDistinct-from_sorted, IsDistinct-head, IsDistinct-tail}
use Rattle.std.proofs.lemmas.Iterator.Adapters.{position_from-zero}
use Rattle.std.proofs.lemmas.Map.Text.{is_eq-slice_cmp}
use Rattle.ss_text.specs.Texts.{Text, Row, text_eq, text_cmp}
use Rattle.view_meaning.specs.Elements.{◌>>=◌, cell_under}
use Rattle.plan_law.proofs.Columns.{Has, texts_equal}
use Rattle.operator_law.specs.Bags.{weigh}

-- no text stands twice
abbrev pub Apart : List Text → Type 0
Apart [] = Unit {0}
Apart (k ∷ ks) = ((y : Text) → Has ks y → text_eq k y ≡ false) × Apart ks

all_at : {X : Type 0} (P : X → Type 0) (xs : List X) (y : X) → AllByRecursion P xs → Has xs y → P y
all_at P [] y h m = absurd m
all_at P (x ∷ xs) y h (inl e) = subst P e h.0
all_at P (x ∷ xs) y h (inr m) = all_at P xs y h.1 m

pub apart_distinct : (ks : List Text) → IsDistinct text_eq ks → Apart ks
apart_distinct [] h = tt
apart_distinct (k ∷ ks) h = (λ y m. all_at (λ y. text_eq k y ≡ false) ks y (IsDistinct-head text_eq k ks h) m, apart_distinct ks (IsDistinct-tail text_eq k ks h))

apart_tied : (ks : List Text) → IsDistinct (eq_by_cmp text_cmp) ks → Apart ks
apart_tied [] h = tt
apart_tied (k ∷ ks) h =
    (λ y m. sym (is_eq-slice_cmp k y) ∙ all_at (λ y. eq_by_cmp text_cmp k y ≡ false) ks y (IsDistinct-head (eq_by_cmp text_cmp) k ks h) m, apart_tied ks (IsDistinct-tail (eq_by_cmp text_cmp) k ks h))

pub apart_ascending : (ks : List Text) → IsStrictlySortedBy text_cmp ks → Apart ks
apart_ascending ks h = apart_tied ks (IsDistinct-from_sorted text_cmp ks h)

-- what a value gives that may be there
pub weigh-bind : {X Y : Type 0} (f : Y → ℕ) (F : X → List Y) (o : Option X) → weigh f (o >>= F) ≡ weigh (λ x. weigh f (F x)) (option_to_list o)
weigh-bind f F None = refl
weigh-bind f F (Some x) = omega arith

pub weigh-bind_then : {X Y Z : Type 0} (f : Z → ℕ) (F : Y → List Z) (k : X → Option Y) (o : Option X) → weigh f (option_and_then k o >>= F) ≡ weigh (λ x. weigh f (k x >>= F)) (option_to_list o)
weigh-bind_then f F k None = refl
weigh-bind_then f F k (Some x) = omega arith

none_has : {X : Type 0} (name : X → Text) (t : Text) (h : X → ℕ) (xs : List X) → ((y : Text) → Has (map name xs) y → text_eq t y ≡ false) → weigh (λ x. cond (text_eq t (name x)) (h x) 0) xs ≡ 0
none_has name t h [] none = refl
none_has name t h (x ∷ xs) none =
    let e : cond (text_eq t (name x)) (h x) 0 ≡ 0 = rw (none (name x) (inl refl)) refl in
    omega (arith, e, none_has name t h xs (λ y m. none y (inr m)))

-- the one with a name is found
pub weigh-found : {X : Type 0} (name : X → Text) (t : Text) (h : X → ℕ) (xs : List X) → Apart (map name xs) → weigh h (option_to_list (find (λ x. text_eq t (name x)) xs)) ≡ weigh (λ x. cond (text_eq t (name x)) (h x) 0) xs
weigh-found name t h [] apart = refl
weigh-found {X} name t h (x ∷ xs) apart = one (text_eq t (name x)) refl (weigh-found name t h xs apart.1)
  where
    one : (b : Bool) → text_eq t (name x) ≡ b → weigh h (option_to_list (find (λ x. text_eq t (name x)) xs)) ≡ weigh (λ x. cond (text_eq t (name x)) (h x) 0) xs
        → weigh h (option_to_list (cond b (Some x) (find (λ x. text_eq t (name x)) xs))) ≡ cond b (h x) 0 + weigh (λ x. cond (text_eq t (name x)) (h x) 0) xs
    one true e rest =
        let same = texts_equal t (name x) e in
        omega (arith, none_has name t h xs (λ y m. ap (λ t. text_eq t y) same ∙ apart.0 y m))
    one false e rest = omega (arith, rest)

from_later : {X : Type 0} (p : X → Bool) (i : ℕ) (xs : List X) → position_from p (i + 1) xs ≡ option_map suc (position_from p i xs)
from_later p i [] = refl
from_later p i (x ∷ xs) = one (p x) (from_later p (i + 1) xs)
  where
    one : (b : Bool) → position_from p (i + 1 + 1) xs ≡ option_map suc (position_from p (i + 1) xs) → cond b (Some (i + 1)) (position_from p (i + 1 + 1) xs) ≡ option_map suc (cond b (Some i) (position_from p (i + 1) xs))
    one true e = ap Some (omega arith)
    one false e = e

pub position_cons : {X : Type 0} (p : X → Bool) (x : X) (xs : List X) → position p (x ∷ xs) ≡ cond (p x) (Some 0) (option_map suc (position p xs))
position_cons p x xs =
    position_from-zero p (x ∷ xs)
    ∙ ap (cond (p x) (Some 0)) (from_later p 0 xs ∙ ap (option_map suc) (sym (position_from-zero p xs)))

-- the field of an attribute is the cell under it
pub weigh-field : (t : Text) (h : Text → ℕ) (attributes row : Row) → Apart attributes → weigh (λ (f : Text × Text). cond (text_eq t f.0) (h f.1) 0) (zip attributes row) ≡ weigh h (option_to_list (cell_under attributes t row))
weigh-field t h [] row apart = refl
weigh-field t h (a ∷ more) [] apart = none (position (text_eq t) (a ∷ more))
  where
    none : (o : Option ℕ) → 0 ≡ weigh h (option_to_list (option_and_then (slice_get []) o))
    none None = refl
    none (Some i) = refl
weigh-field t h (a ∷ more) (s ∷ row) apart = one (text_eq t a) refl (weigh-field t h more row apart.1) ∙ ap (λ (o : Option ℕ). weigh h (option_to_list (option_and_then (slice_get (s ∷ row)) o))) (sym (position_cons (text_eq t) a more))
  where
    missing : (more row : Row) → ((y : Text) → Has more y → text_eq t y ≡ false) → weigh (λ (f : Text × Text). cond (text_eq t f.0) (h f.1) 0) (zip more row) ≡ 0
    missing [] row none = refl
    missing (b ∷ more) [] none = refl
    missing (b ∷ more) (s ∷ row) none =
        let e : cond (text_eq t b) (h s) 0 ≡ 0 = rw (none b (inl refl)) refl in
        omega (arith, e, missing more row (λ y m. none y (inr m)))

    later : (o : Option ℕ) → option_and_then (slice_get (s ∷ row)) (option_map suc o) ≡ option_and_then (slice_get row) o
    later None = refl
    later (Some i) = refl

    one : (b : Bool) → text_eq t a ≡ b → weigh (λ (f : Text × Text). cond (text_eq t f.0) (h f.1) 0) (zip more row) ≡ weigh h (option_to_list (cell_under more t row))
        → cond b (h s) 0 + weigh (λ (f : Text × Text). cond (text_eq t f.0) (h f.1) 0) (zip more row) ≡ weigh h (option_to_list (option_and_then (slice_get (s ∷ row)) (cond b (Some 0) (option_map suc (position (text_eq t) more)))))
    one true e rest =
        let same = texts_equal t a e in
        omega (arith, missing more row (λ y m. ap (λ t. text_eq t y) same ∙ apart.0 y m))
    one false e rest = rw (later (position (text_eq t) more)) (omega (arith, rest))
