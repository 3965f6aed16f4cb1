-- The terms of a typed view.
use Rattle.std.specs.Prelude.{List, [], ◌∷◌, ◌++◌, Option, Some, None, option_to_list}
use Rattle.view_def.specs.declared.typed.Term.{Term}
use Rattle.view_def.specs.Conditions.{Condition, Conditions, AnyOf, AllOf, NotOf, Compares, none, more}
use Rattle.view_def.specs.Query.{Query}

abbrev mutual
  -- the terms of a condition, in every branch
  pub terms_of : Condition → List Term
  terms_of (AnyOf cs) = terms_of_each cs
  terms_of (AllOf cs) = terms_of_each cs
  terms_of (NotOf c) = terms_of c
  terms_of (Compares s op t) = s ∷ t ∷ []

  pub terms_of_each : Conditions → List Term
  terms_of_each none = []
  terms_of_each (more c cs) = terms_of c ++ terms_of_each cs

-- no condition has no terms
abbrev pub terms_of_filter : Option Condition → List Term
terms_of_filter None = []
terms_of_filter (Some c) = terms_of c

-- the terms of a view: those of SELECT, and those of the condition
abbrev pub terms_of_view : Query → List Term
terms_of_view q = q.keys ++ option_to_list q.value ++ terms_of_filter q.condition
