-- Variables in attribute places: at most one for each tuple variable.
use Rattle.std.specs.Prelude.{◌≡◌, ℕ, Bool, not, ◌&&◌, ◌==◌, List, [], ◌∷◌, Option, None}
use Rattle.std.specs.List.{list_any}
use Rattle.ss_text.specs.Texts.{Text}
use Rattle.view_def.specs.declared.written.Name.{Name}
use Rattle.view_def.specs.declared.written.RawDecl.{RawDecl}
use Rattle.view_def.specs.declared.typed.Place.{Place}
use Rattle.view_def.specs.declared.typed.Place.TheVariants as place
use Rattle.var_typing.specs.declared.fault.TypeFault.{TypeFault}
use Rattle.var_typing.specs.declared.fault.TypeFault.TheVariants.{TwoFolds}
use Rattle.var_typing.specs.declared.folds.Fold.{Fold}
use Rattle.var_typing.specs.Refusals.{where_true, ◌or_else◌}
use Rattle.var_typing.specs.Scope.{place_named, variable_at, name_fault, tuple_fault}

-- a tuple variable and the variable in its attribute place, where there is one
abbrev pub fold_at : ℕ → Place → List Fold
fold_at tuple (place.Fixed a) = []
fold_at tuple (place.Var k) = record { tuple = tuple; variable = k } ∷ []

abbrev pub fold_of : List RawDecl → Text → Name → List Fold
fold_of ds x a = fold_at (variable_at ds x) (place_named ds a)

-- whether one of these has another variable for the same tuple variable
abbrev pub is_other : Fold → Fold → Bool
is_other f g = (g.tuple == f.tuple) && not (g.variable == f.variable)

abbrev pub has_other : List Fold → Fold → Bool
has_other folds f = list_any (is_other f) folds

abbrev pub is_same : Fold → Fold → Bool
is_same f g = (g.tuple == f.tuple) && (g.variable == f.variable)

-- after these or after those, the same folds are refused
abbrev pub SameOthers : List Fold → List Fold → Type 0
SameOthers these those = (f : Fold) → has_other these f ≡ has_other those f

-- the fold of the tuple variable x after these
abbrev pub two_folds : List Fold → Text → List Fold → Option TypeFault
two_folds before x [] = None
two_folds before x (f ∷ fs) = where_true (has_other before f) (TwoFolds x)

-- an attribute of a tuple variable, where so many declarations are in sight and these folds stand before
abbrev pub attribute_fault : List RawDecl → ℕ → List Fold → Text → Name → Option TypeFault
attribute_fault ds visible folds x a = tuple_fault ds visible x or_else name_fault ds visible a or_else two_folds folds x (fold_of ds x a)
