-- Which places of two rows are compared when they are joined.
use Rattle.std.specs.Prelude.{ℕ, suc, Bool, true, false, ◌&&◌, not, List, [], ◌∷◌, ◌++◌, filter, map, position, Option, Some, None, option_map, slice_get}
use Rattle.std.specs.List.{list_all, filter_map}
use Rattle.ss_text.specs.Texts.{Text, Row}
use Rattle.plan_law.specs.Kinds.{Term}
use Rattle.plan_law.specs.Kinds.term
use Rattle.view_def.specs.Query.{Query}
use Rattle.plan_law.specs.Columns.{term_eq, may_equal, equalities}
use Rattle.view_meaning.specs.Operands.{resolved}
use Rattle.join_delta.specs.Joined.{matches}

-- where a text is found: given, or at a place of the left row or of the right one
pub data Source : Type 0 where
  Given : Text → Source
  Left : ℕ → Source
  Right : ℕ → Source

-- the first place of a term, of the left row before the right one
abbrev pub in_either : Option ℕ → Option ℕ → Option Source
in_either (Some i) o = Some (Left i)
in_either None o = option_map Right o

abbrev pub source_of : List Term → List Term → Term → Option Source
source_of h d (term.Literal t) = Some (Given t)
source_of h d t = in_either (position (term_eq t) h) (position (term_eq t) d)

abbrev pub source_text : Row → Row → Source → Option Text
source_text x y (Given t) = Some t
source_text x y (Left i) = slice_get x i
source_text x y (Right j) = slice_get y j

abbrev pub Link : Type 0
Link = Source × Source

abbrev pub link : Option Source → Option Source → Option Link
link None b = None
link (Some a) None = None
link (Some a) (Some b) = Some (a, b)

-- the places of columns, each with its term
abbrev pub places_from : (ℕ → Source) → ℕ → List Term → List (Source × Term)
places_from f n [] = []
places_from f n (t ∷ ts) = (f n, t) ∷ places_from f (suc n) ts

-- a column and the first one of its term
abbrev pub column_link : Query → List Term → List Term → Source × Term → Option Link
column_link q h d c = link (source_of h d (resolved q.decls c.1)) (Some c.0)

-- the two sides of an equality
abbrev pub equality_link : Query → List Term → List Term → Term × Term → Option Link
equality_link q h d e = link (source_of h d (resolved q.decls e.0)) (source_of h d (resolved q.decls e.1))

abbrev pub links : Query → List Term → List Term → List Link
links q h d =
    filter_map (column_link q h d) (places_from Left 0 h)
    ++ filter_map (column_link q h d) (places_from Right 0 d)
    ++ filter_map (equality_link q h d) (equalities q.condition)

abbrev pub link_holds : Row → Row → Link → Bool
link_holds x y l = may_equal (source_text x y l.0) (source_text x y l.1)

abbrev pub is_left : Source → Bool
is_left (Left i) = true
is_left s = false

abbrev pub is_right : Source → Bool
is_right (Right j) = true
is_right s = false

-- a key of the join: a place on each side
abbrev pub key_between : Source → Source → Option (ℕ × ℕ)
key_between (Left i) (Right j) = Some (i, j)
key_between (Right j) (Left i) = Some (i, j)
key_between a b = None

abbrev pub key_of : Link → Option (ℕ × ℕ)
key_of l = key_between l.0 l.1

-- a test of the right row alone: no place on the left
abbrev pub is_own : Link → Bool
is_own l = not (is_left l.0) && not (is_left l.1)

abbrev pub keys_of : Query → List Term → List Term → List (ℕ × ℕ)
keys_of q h d = filter_map key_of (links q h d)

abbrev pub own_links : Query → List Term → List Term → List Link
own_links q h d = filter is_own (links q h d)

-- their places in the left row, and in the right one
abbrev pub left_key : Query → List Term → List Term → List ℕ
left_key q h d = map (λ (k : ℕ × ℕ). k.0) (keys_of q h d)

abbrev pub right_key : Query → List Term → List Term → List ℕ
right_key q h d = map (λ (k : ℕ × ℕ). k.1) (keys_of q h d)

-- the cells at these places are equal
abbrev pub keys_hold : Query → List Term → List Term → Row → Row → Bool
keys_hold q h d = matches (left_key q h d) (right_key q h d)

abbrev pub own_holds : Query → List Term → List Term → Row → Bool
own_holds q h d y = list_all (link_holds [] y) (own_links q h d)
