-- The columns of a header, one column on.
use Rattle.std.proofs.Common.{◌≡◌, ◌≢◌, ◌<◌, ◌+◌, ◌∷◌, ◌++◌, [], ℕ, true, false, List, Option, Some, None, refl, sym, ap, ◌∙◌, arith, length, take, drop, get_or, is_some, append-nil}
use Rattle.std.specs.List.{list_any}
use Rattle.std.proofs.lemmas.List.{map_more, length-take-le, length-map}
use Rattle.std.proofs.lemmas.List.Elements.{filter_map-append}
use Rattle.view_def.specs.declared.written.Name.{Name}
use Rattle.view_def.specs.declared.written.RawDecl.{RawDecl}
use Rattle.view_def.specs.declared.typed.Place.{Place}
use Rattle.view_def.specs.declared.typed.Place.TheVariants as place
use Rattle.var_typing.specs.declared.fault.TypeFault.{TypeFault}
use Rattle.var_typing.specs.declared.fault.TypeFault.TheVariants as fault
use Rattle.var_typing.specs.declared.header.Columns.{Columns}
use Rattle.var_typing.specs.Header.{is_variable, constant_text, column_places, constants_of, column_after, column_fault, columns_fault, Parts, parts_of, column_parts, with_column}
use Rattle.var_typing.specs.Refusals.{in_turn, where_true}
use Rattle.var_typing.specs.Scope.{is_tuple, variable_named, place_named, variable_or}
use Rattle.var_typing.proofs.PositionLemmas.{is_some-position, position_failing, position_first, find_failing, find_first}
use Rattle.var_typing.proofs.WalkLemmas.{at_some, none_right, not_true, in_turn_passed, in_turn_refused}

-- the parts with one more column at the end
parts_last : (places : List Place) (p : Place) → (is_variable p ≡ true → list_any is_variable places ≡ false) → parts_of (places ++ p ∷ []) ≡ with_column (length places) p (parts_of places)
parts_last places (place.Fixed t) h =
    rw (filter_map-append constant_text places (place.Fixed t ∷ []), position_failing is_variable (place.Fixed t) refl places, find_failing is_variable (place.Fixed t) refl places) refl
parts_last places (place.Var k) h =
    rw (filter_map-append constant_text places (place.Var k ∷ []), position_first is_variable (place.Var k) refl places (h refl), find_first is_variable (place.Var k) refl places (h refl), append-nil (constants_of places)) refl

module _ (ds : List RawDecl) (columns : List Name) (i : ℕ) (n : Name) (h : Columns) (lt : i < length columns) (at : n ≡ get_or columns i n)
    (left : in_turn (column_fault ds) (take i columns) (drop i columns) ≡ in_turn (column_fault ds) [] columns)
    (parts : column_parts h ≡ parts_of (column_places ds (take i columns))) where
  varies : is_some h.spot ≡ list_any is_variable (column_places ds (take i columns))
  varies = ap (λ (p : Parts). is_some p.1) parts ∙ is_some-position is_variable (column_places ds (take i columns))

  here : column_fault ds (take i columns) n ≡ column_after ds h.constants.keys (is_some h.spot) n.text (variable_named ds n)
  here =
      ap (λ b. column_after ds (constants_of (column_places ds (take i columns))) b n.text (variable_named ds n)) (sym varies)
      ∙ ap (λ (p : Parts). column_after ds p.0 (is_some h.spot) n.text (variable_named ds n)) (sym parts)

  pub column_passed : column_after ds h.constants.keys (is_some h.spot) n.text (variable_named ds n) ≡ None
      → in_turn (column_fault ds) (take (i + 1) columns) (drop (i + 1) columns) ≡ in_turn (column_fault ds) [] columns
  column_passed e = in_turn_passed (column_fault ds) columns i n lt at (in_turn (column_fault ds) [] columns) left (here ∙ e)

  pub column_refused : (f : TypeFault) → (f ≢ fault.NoMemory → column_after ds h.constants.keys (is_some h.spot) n.text (variable_named ds n) ≡ Some f)
      → f ≢ fault.NoMemory → columns_fault ds columns ≡ Some f
  column_refused f e m = at_some (in_turn (column_fault ds) [] columns) _ f (in_turn_refused (column_fault ds) columns i n lt at (in_turn (column_fault ds) [] columns) left f (here ∙ e m))

  -- a variable column passes where no variable stands before
  none_before : (v : Option ℕ) → column_after ds h.constants.keys (is_some h.spot) n.text v ≡ None → is_variable (variable_or n.text v) ≡ true → is_some h.spot ≡ false
  none_before None e is = absurd (cc)
  none_before (Some k) e is = not_true (is_some h.spot) _ (none_right (where_true (is_tuple ds k) (fault.WrongKind n.text)) _ e)

  pub column_added : (after : Columns) → column_after ds h.constants.keys (is_some h.spot) n.text (variable_named ds n) ≡ None
      → column_parts after ≡ with_column i (place_named ds n) (column_parts h) → column_parts after ≡ parts_of (column_places ds (take (i + 1) columns))
  column_added after e added =
      added ∙ ap (with_column i (place_named ds n)) parts
      ∙ ap (λ k. with_column k (place_named ds n) (parts_of (column_places ds (take i columns)))) (sym many)
      ∙ sym (parts_last (column_places ds (take i columns)) (place_named ds n) (λ is. sym varies ∙ none_before (variable_named ds n) e is))
      ∙ ap parts_of (sym (map_more (place_named ds) columns i n lt ∙ ap (λ (m : Name). column_places ds (take i columns) ++ place_named ds m ∷ []) (sym at)))
    where
      many : length (column_places ds (take i columns)) ≡ i
      many = length-map (take i columns) (place_named ds) ∙ length-take-le i columns (omega arith)
