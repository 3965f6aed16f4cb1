-- The terms of SELECT and of the condition, from left to right.
use Rattle.std.specs.Prelude.{ℕ, List, [], ◌∷◌, ◌++◌, length, Option, Some, None}
use Rattle.ss_text.specs.Texts.{Text}
use Rattle.view_def.specs.declared.written.RawTerm.{RawTerm}
use Rattle.view_def.specs.declared.written.RawTerm.TheVariants as raw
use Rattle.view_def.specs.declared.written.RawDecl.{RawDecl}
use Rattle.view_def.specs.declared.typed.Term.{Term}
use Rattle.view_def.specs.declared.typed.Term.TheVariants as term
use Rattle.view_def.specs.RawConditions as raw_conditions
use Rattle.view_def.specs.RawConditions.{Raw, Raws, AnyRaw, AllRaw, NotRaw, CompareRaw}
use Rattle.view_def.specs.Conditions.{Condition, Conditions, AnyOf, AllOf, NotOf, Compares, none, more}
use Rattle.var_typing.specs.declared.fault.TypeFault.{TypeFault}
use Rattle.var_typing.specs.declared.fault.TypeFault.TheVariants.{NotDeclared, WrongKind}
use Rattle.var_typing.specs.declared.folds.Fold.{Fold}
use Rattle.var_typing.specs.Refusals.{where_true, ◌or_else◌}
use Rattle.var_typing.specs.Scope.{declared_at, is_tuple, place_named, variable_at}
use Rattle.var_typing.specs.Folds.{fold_of, attribute_fault}

-- an identifier alone: it has to be declared, and no tuple variable
abbrev pub lone_fault : List RawDecl → Text → Option ℕ → Option TypeFault
lone_fault ds x None = Some (NotDeclared x)
lone_fault ds x (Some k) = where_true (is_tuple ds k) (WrongKind x)

-- a term, where all declarations are in sight and these folds stand before
abbrev pub term_fault : List RawDecl → List Fold → RawTerm → Option TypeFault
term_fault ds folds (raw.Lone x) = lone_fault ds x (declared_at ds x)
term_fault ds folds (raw.Dot x a) = attribute_fault ds (length ds) folds x a
term_fault ds folds (raw.Literal t) = None

abbrev pub term_folds : List RawDecl → RawTerm → List Fold
term_folds ds (raw.Dot x a) = fold_of ds x a
term_folds ds t = []

-- terms from the left, where these folds stand before
abbrev pub terms_fault : List RawDecl → List Fold → List RawTerm → Option TypeFault
terms_fault ds folds [] = None
terms_fault ds folds (t ∷ ts) = term_fault ds folds t or_else terms_fault ds (folds ++ term_folds ds t) ts

abbrev pub typed_term : List RawDecl → RawTerm → Term
typed_term ds (raw.Lone x) = term.Var (variable_at ds x)
typed_term ds (raw.Dot x a) = term.Cell (variable_at ds x) (place_named ds a)
typed_term ds (raw.Literal t) = term.Literal t

abbrev mutual
  -- the terms of a condition, from left to right
  pub terms_in : Raw → List RawTerm
  terms_in (AnyRaw cs) = terms_in_each cs
  terms_in (AllRaw cs) = terms_in_each cs
  terms_in (NotRaw c) = terms_in c
  terms_in (CompareRaw s op t) = s ∷ t ∷ []

  pub terms_in_each : Raws → List RawTerm
  terms_in_each raw_conditions.none = []
  terms_in_each (raw_conditions.more c cs) = terms_in c ++ terms_in_each cs

abbrev pub terms_in_filter : Option Raw → List RawTerm
terms_in_filter None = []
terms_in_filter (Some c) = terms_in c

abbrev mutual
  -- the condition with its terms typed
  pub typed_condition : List RawDecl → Raw → Condition
  typed_condition ds (AnyRaw cs) = AnyOf (typed_conditions ds cs)
  typed_condition ds (AllRaw cs) = AllOf (typed_conditions ds cs)
  typed_condition ds (NotRaw c) = NotOf (typed_condition ds c)
  typed_condition ds (CompareRaw s op t) = Compares (typed_term ds s) op (typed_term ds t)

  pub typed_conditions : List RawDecl → Raws → Conditions
  typed_conditions ds raw_conditions.none = none
  typed_conditions ds (raw_conditions.more c cs) = more (typed_condition ds c) (typed_conditions ds cs)
