-- What a combination holds of a partial valuation.
use Rattle.std.proofs.Common.{◌≡◌, ◌<◌, inl, subst, ℕ, zero, suc, ◌==◌, List, [], ◌∷◌, ◌++◌, length, take, Bool, true, false, cond, refl, ap, Option, Some, None}
use Rattle.std.specs.List.{filter_map, slice_get}
use Rattle.std.specs.Option.{option_and_then}
use Rattle.std.proofs.lemmas.Option.{option_and_then_some}
use Rattle.ss_text.specs.Texts.{Text, Row}
use Rattle.plan_law.specs.Kinds.{Place, Term, Range}
use Rattle.plan_law.specs.Kinds.place
use Rattle.plan_law.specs.Kinds.term
use Rattle.plan_law.specs.Kinds.range
use Rattle.view_def.specs.Query.{Query}
use Rattle.view_def.specs.Profile.{is_tuple_variable, is_text_variable, has_text, is_range_over}
use Rattle.view_meaning.specs.Elements.{Element, Valuation, text_of, text_at, cell_of_element, cell_at}
use Rattle.view_meaning.specs.Terms.{value_of}
use Rattle.view_meaning.specs.Meaning.{term_of}
use Rattle.plan_law.specs.Columns.{Combo, tested_terms, wanted_in, folded_in, wanted, fold_of}
use Rattle.plan_law.proofs.Columns.{Has, has_left, has_given, has_from, number_same, numbers_equal}

-- what is defined stays so when more elements come
pub get_more : {A : Type 0} (f : Element → Option A) (v w : Valuation) (k : ℕ) (y : A) → option_and_then f (slice_get v k) ≡ Some y → option_and_then f (slice_get (v ++ w) k) ≡ Some y
get_more f [] w k y e = cc
get_more f (a ∷ v) w zero y e = e
get_more f (a ∷ v) w (suc k) y e = get_more f v w k y e

pub cell_more : (v w : Valuation) (k : ℕ) (a : Place) (s : Text) → cell_at v k a ≡ Some s → cell_at (v ++ w) k a ≡ Some s
cell_more v w k (place.Fixed n) s e = get_more (λ e. cell_of_element e n) v w k s e
cell_more v w k (place.Var u) s e =
    option_and_then_some (λ name. option_and_then (λ e. cell_of_element e name) (slice_get v k)) (text_at v u) s e (λ n is cell.
    rw (get_more text_of v w u n is) (get_more (λ e. cell_of_element e n) v w k s cell))

pub value_more : (v w : Valuation) (t : Term) (s : Text) → value_of v t ≡ Some s → value_of (v ++ w) t ≡ Some s
value_more v w (term.Literal t) s e = e
value_more v w (term.Var k) s e = get_more text_of v w k s e
value_more v w (term.Cell k a) s e = cell_more v w k a s e

-- a term's value stands in a column of its own
pub record Held (v : Valuation) (x : Combo) (t : Term) : Type 0 where
  pub text : Text
  pub value : value_of v t ≡ Some text
  pub column : Has x (t, text)

pub held_more : (v w : Valuation) (x y : Combo) (t : Term) → Held v x t → Held (v ++ w) (x ++ y) t
held_more v w x y t h = record { text = h.text; value = value_more v w t h.text h.value; column = has_left x y (t, h.text) h.column }

-- a tuple variable has picked an attribute, for the variable in its attribute place
pub record Picked (v : Valuation) (x : Combo) (k u : ℕ) : Type 0 where
  pub name : Text
  pub text : Text
  pub cell : option_and_then (λ e. cell_of_element e name) (slice_get v k) ≡ Some text
  pub named : Has x (term.Var u, name)
  pub column : Has x (term.Cell k (place.Var u), text)

abbrev pub PickedFor : Valuation → Combo → ℕ → Option ℕ → Type 0
PickedFor v x k None = Unit {0}
PickedFor v x k (Some u) = Picked v x k u

abbrev pub EachHeld : Valuation → Combo → ℕ → Row → Type 0
EachHeld v x k [] = Unit {0}
EachHeld v x k (a ∷ more) = Held v x (term.Cell k (place.Fixed a)) × EachHeld v x k more

pub record HeldTuple (v : Valuation) (x : Combo) (k : ℕ) (names : Row) (fold : Option ℕ) : Type 0 where
  pub cells : EachHeld v x k names
  pub picked : PickedFor v x k fold

pub record IsAliased (v : Valuation) (i j : ℕ) (a : Place) : Type 0 where
  pub text : Text
  pub value : value_of v (term.Var i) ≡ Some text
  pub cell : cell_at v j a ≡ Some text

-- what there is of declaration k
abbrev pub Stands : Query → Valuation → Combo → ℕ → Range → Type 0
Stands q v x k (range.Tuples p r) = HeldTuple v x k (wanted q k) (fold_of q k)
Stands q v x k (range.Alias j a) = IsAliased v k j a
Stands q v x k d = Held v x (term.Var k)

pub each_more : (v w : Valuation) (x y : Combo) (k : ℕ) (names : Row) → EachHeld v x k names → EachHeld (v ++ w) (x ++ y) k names
each_more v w x y k [] h = tt
each_more v w x y k (a ∷ more) h = (held_more v w x y (term.Cell k (place.Fixed a)) h.0, each_more v w x y k more h.1)

picked_more : (v w : Valuation) (x y : Combo) (k : ℕ) (fold : Option ℕ) → PickedFor v x k fold → PickedFor (v ++ w) (x ++ y) k fold
picked_more v w x y k None h = tt
picked_more v w x y k (Some u) h = record {
  name = h.name;
  text = h.text;
  cell = get_more (λ e. cell_of_element e h.name) v w k h.text h.cell;
  named = has_left x y (term.Var u, h.name) h.named;
  column = has_left x y (term.Cell k (place.Var u), h.text) h.column;
}

pub stands_more : (q : Query) (v w : Valuation) (x y : Combo) (k : ℕ) (d : Range) → Stands q v x k d → Stands q (v ++ w) (x ++ y) k d
stands_more q v w x y k range.Databases h = held_more v w x y (term.Var k) h
stands_more q v w x y k (range.Relations p) h = held_more v w x y (term.Var k) h
stands_more q v w x y k (range.Attributes p r) h = held_more v w x y (term.Var k) h
stands_more q v w x y k (range.Values p r a) h = held_more v w x y (term.Var k) h
stands_more q v w x y k (range.Tuples p r) h = record { cells = each_more v w x y k (wanted q k) h.cells; picked = picked_more v w x y k (fold_of q k) h.picked }
stands_more q v w x y k (range.Alias j a) h = record {
  text = h.text;
  value = value_more v w (term.Var k) h.text h.value;
  cell = cell_more v w j a h.text h.cell;
}

-- which terms columns may stand for
abbrev pub IsColumn : Query → Term → Type 0
IsColumn q (term.Literal t) = Unit {0}
IsColumn q (term.Var i) = is_text_variable q.decls i ≡ true
IsColumn q (term.Cell i a) = Has (tested_terms q) (term.Cell i a)

-- a combination holds the declarations so far
pub record Owns (q : Query) (v : Valuation) (x : Combo) : Type 0 where
  pub each : (i : ℕ) (d : Range) → i < length v → slice_get q.decls i ≡ Some d → Stands q v x i d
  pub terms : (t : Term) (s : Text) → Has x (t, s) → IsColumn q t

-- what the plan uses of the profile
pub record Fits (q : Query) : Type 0 where
  pub ranges : (i : ℕ) (d : Range) → slice_get q.decls i ≡ Some d → is_range_over (take i q.decls) d ≡ true
  pub one_fold : (k u w : ℕ) → Has (tested_terms q) (term.Cell k (place.Var u)) → Has (tested_terms q) (term.Cell k (place.Var w)) → u ≡ w
  pub cells : (k : ℕ) (a : Place) → Has (tested_terms q) (term.Cell k a) → (is_tuple_variable q.decls k ≡ true) × (has_text q.decls a ≡ true)
  pub names : (i : ℕ) → Has (tested_terms q) (term.Var i) → is_text_variable q.decls i ≡ true
  pub label : IsColumn q (term_of q.label)
  pub column : (p : Place) → q.column ≡ Some p → IsColumn q (term_of p)

pub is_wanted : (q : Query) (k : ℕ) (a : Text) → Has (tested_terms q) (term.Cell k (place.Fixed a)) → Has (wanted q k) a
is_wanted q k a h = has_given (wanted_in k) (tested_terms q) (term.Cell k (place.Fixed a)) a h (rw (number_same k) refl)

pub wanted_is : (q : Query) (k : ℕ) (a : Text) → Has (wanted q k) a → Has (tested_terms q) (term.Cell k (place.Fixed a))
wanted_is q k a h =
    let r = has_from (wanted_in k) (tested_terms q) a h in
    subst (Has (tested_terms q)) (of_cell r.0 r.2) r.1
  where
    here : (j : ℕ) (b : Text) (t : Bool) → (k == j) ≡ t → cond t (Some b) None ≡ Some a → term.Cell j (place.Fixed b) ≡ term.Cell k (place.Fixed a)
    here j b true d e = let f = numbers_equal k j d in cc
    here j b false d e = cc

    of_cell : (t : Term) → wanted_in k t ≡ Some a → t ≡ term.Cell k (place.Fixed a)
    of_cell (term.Literal s) e = cc
    of_cell (term.Var j) e = cc
    of_cell (term.Cell j (place.Var u)) e = cc
    of_cell (term.Cell j (place.Fixed b)) e = here j b (k == j) refl e

pub folded_is : (q : Query) (k u : ℕ) → Has (filter_map (folded_in k) (tested_terms q)) u → Has (tested_terms q) (term.Cell k (place.Var u))
folded_is q k u h =
    let r = has_from (folded_in k) (tested_terms q) u h in
    subst (Has (tested_terms q)) (of_cell r.0 r.2) r.1
  where
    here : (j w : ℕ) (t : Bool) → (k == j) ≡ t → cond t (Some w) None ≡ Some u → term.Cell j (place.Var w) ≡ term.Cell k (place.Var u)
    here j w true d e = let f = numbers_equal k j d in cc
    here j w false d e = cc

    of_cell : (t : Term) → folded_in k t ≡ Some u → t ≡ term.Cell k (place.Var u)
    of_cell (term.Literal s) e = cc
    of_cell (term.Var j) e = cc
    of_cell (term.Cell j (place.Fixed b)) e = cc
    of_cell (term.Cell j (place.Var w)) e = here j w (k == j) refl e

pub fold_is : (q : Query) (k u : ℕ) → fold_of q k ≡ Some u → Has (tested_terms q) (term.Cell k (place.Var u))
fold_is q k u e = folded_is q k u (first (filter_map (folded_in k) (tested_terms q)) e)
  where
    first : (xs : List ℕ) → slice_get xs 0 ≡ Some u → Has xs u
    first [] e = cc
    first (x ∷ xs) e = inl cc

pub is_fold : (q : Query) → Fits q → (k u : ℕ) → Has (tested_terms q) (term.Cell k (place.Var u)) → fold_of q k ≡ Some u
is_fold q fits k u h =
    first (filter_map (folded_in k) (tested_terms q)) (has_given (folded_in k) (tested_terms q) (term.Cell k (place.Var u)) u h (rw (number_same k) refl)) (folded_is q k)
  where
    first : (xs : List ℕ) → Has xs u → ((w : ℕ) → Has xs w → Has (tested_terms q) (term.Cell k (place.Var w))) → slice_get xs 0 ≡ Some u
    first [] m all = absurd m
    first (x ∷ xs) m all = ap Some (fits.one_fold k x u (all x (inl refl)) h)
