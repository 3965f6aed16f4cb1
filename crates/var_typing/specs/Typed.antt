-- A view definition typed, or its first refusal.
use Rattle.std.specs.Prelude.{ℕ, List, ◌++◌, map, remove, slice_get, Option, Some, None, option_map, option_and_then, Result, Ok, Err}
use Rattle.ss_text.specs.Texts.{Text}
use Rattle.view_def.specs.declared.typed.Place.{Place}
use Rattle.view_def.specs.declared.typed.Range.{Range}
use Rattle.view_def.specs.declared.typed.Term.{Term}
use Rattle.view_def.specs.declared.written.RawDecl.{RawDecl}
use Rattle.view_def.specs.Tree.{ViewTree}
use Rattle.view_def.specs.Conditions.{Condition, condition_of}
use Rattle.view_def.specs.Query.{Query}
use Rattle.var_typing.specs.declared.fault.TypeFault.{TypeFault}
use Rattle.var_typing.specs.declared.view.Body.{Body}
use Rattle.var_typing.specs.Refusals.{◌or_else◌}
use Rattle.var_typing.specs.Declarations.{declarations_fault, alias_folds, typed_range}
use Rattle.var_typing.specs.Header.{header_fault, count_fault, Parts, header_of}
use Rattle.var_typing.specs.Terms.{terms_fault, terms_in_filter, typed_term, typed_condition}

-- the first refusal on the walk: declarations, header, counts, terms
abbrev pub fault_of : ViewTree → Option TypeFault
fault_of t =
    declarations_fault t.decls
    or_else header_fault t
    or_else count_fault t
    or_else terms_fault t.decls (alias_folds t.decls t.decls) (t.select ++ terms_in_filter t.condition)

-- all but the element at a place
abbrev pub without : {A : Type 0} → Option ℕ → List A → List A
without None xs = xs
without (Some k) xs = remove xs k

-- the terms of SELECT, and the condition
abbrev pub body_of : ViewTree → List Term × Option Condition
body_of t = (map (typed_term t.decls) t.select, option_map (typed_condition t.decls) t.condition)

abbrev pub body_parts : Body → List Term × Option Condition
body_parts b = (b.terms.items, option_map condition_of b.filter)

-- the view of a header, ranges and a body: the term of the variable column is its value, and the others are the keys
abbrev pub query_with : Text × Place × Parts → List Range → List Term × Option Condition → Query
query_with (db, label, (constants, spot, column)) decls (terms, c) = record {
  view_db = db;
  label = label;
  constants = constants;
  keys = without spot terms;
  spot = spot;
  column = column;
  value = option_and_then (slice_get terms) spot;
  decls = decls;
  condition = c;
}

-- the view, where nothing is refused
abbrev pub query_from : ViewTree → Query
query_from t = query_with (header_of t) (map (λ (d : RawDecl). typed_range t.decls d.range) t.decls) (body_of t)

abbrev pub answered : Option TypeFault → Query → Result Query TypeFault
answered None q = Ok q
answered (Some f) q = Err f

unfoldable pub typed : ViewTree → Result Query TypeFault
typed t = answered (fault_of t) (query_from t)
