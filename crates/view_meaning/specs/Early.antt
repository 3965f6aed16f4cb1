-- What the elements of the first declarations already say of all valuations that begin with them.
use Rattle.std.specs.Prelude.{◌≡◌, ◌<◌, ℕ, Bool, true, false, ◌&&◌, nat_lt, List, [], ◌∷◌, ◌++◌, length, slice_get, Option, Some, None, is_some}
use Rattle.std.specs.List.{list_all}
use Rattle.ss_text.specs.Texts.{Text}
use Rattle.view_def.specs.declared.typed.Place.{Place}
use Rattle.view_def.specs.declared.typed.Place.TheVariants as place
use Rattle.view_def.specs.declared.typed.Term.{Term}
use Rattle.view_def.specs.declared.typed.Term.TheVariants as term
use Rattle.view_def.specs.declared.typed.Range.TheVariants as range
use Rattle.view_def.specs.Conditions.{Condition, Conditions, AnyOf, AllOf, NotOf, Compares, none, more}
use Rattle.view_def.specs.Query.{Query}
use Rattle.view_def.specs.Terms.{terms_of}
use Rattle.view_meaning.specs.Elements.{Valuation, text_at, cell_at}
use Rattle.view_meaning.specs.Terms.{Reading, value_of, are_defined, is_true}
use Rattle.view_meaning.specs.Valuations.{counts}

-- the variables of a place, a term or terms are among those of the first n declarations
abbrev pub is_bound_place : ℕ → Place → Bool
is_bound_place n (place.Fixed t) = true
is_bound_place n (place.Var k) = nat_lt k n

abbrev pub is_bound : ℕ → Term → Bool
is_bound n (term.Literal t) = true
is_bound n (term.Var k) = nat_lt k n
is_bound n (term.Cell k a) = nat_lt k n && is_bound_place n a

abbrev pub are_bound : ℕ → List Term → Bool
are_bound n ts = list_all (is_bound n) ts

-- the members of the outermost AND; another condition is its own only member
abbrev pub listed : Conditions → List Condition
listed none = []
listed (more c cs) = c ∷ listed cs

abbrev pub members_of : Condition → List Condition
members_of (AnyOf cs) = AnyOf cs ∷ []
members_of (AllOf cs) = listed cs
members_of (NotOf c) = NotOf c ∷ []
members_of (Compares s op t) = Compares s op t ∷ []

abbrev pub members : Option Condition → List Condition
members None = []
members (Some x) = members_of x

-- whether a condition is true and every term in it defined
abbrev pub holds : Reading → Condition → Bool
holds r m = are_defined r (terms_of m) && is_true r m

-- no reading counts where this does not hold, or where this is not defined
abbrev pub NeedsMember : Query → Condition → Type 0
NeedsMember q m = (r : Reading) → holds r m ≡ false → counts q r ≡ false

abbrev pub NeedsTerm : Query → Term → Type 0
NeedsTerm q t = (r : Reading) → is_some (r t) ≡ false → counts q r ≡ false

-- each alias that has an element has the text of the cell that it names
abbrev pub AliasesAgree : Query → Valuation → Type 0
AliasesAgree q v =
    (k j : ℕ) (a : Place) → slice_get q.decls k ≡ Some (range.Alias j a) → k < length v → (t : Text) × (text_at v k ≡ Some t) × (cell_at v j a ≡ Some t)

-- no valuation that begins so counts
abbrev pub Ends : Query → Valuation → Type 0
Ends q v = (w : Valuation) → AliasesAgree q (v ++ w) → counts q (value_of (v ++ w)) ≡ false
