-- The header of a view.
use Rattle.std.specs.Prelude.{ℕ, Bool, true, false, not, List, [], ◌∷◌, ◌++◌, length, map, Option, Some, None, nat_eq, position}
use Rattle.std.specs.List.{list_any, filter_map, find}
use Rattle.ss_text.specs.Texts.{Text, Row, is_in}
use Rattle.ss_text.specs.Label.{is_table_label}
use Rattle.view_def.specs.declared.written.Name.{Name}
use Rattle.view_def.specs.declared.written.RawDecl.{RawDecl}
use Rattle.view_def.specs.declared.typed.Place.{Place}
use Rattle.view_def.specs.declared.typed.Place.TheVariants as place
use Rattle.view_def.specs.Tree.{ViewTree}
use Rattle.var_typing.specs.declared.fault.TypeFault.{TypeFault}
use Rattle.var_typing.specs.declared.fault.TypeFault.TheVariants.{WrongKind, BadLabel, TwoVariableColumns, ColumnTwice, NoConstantColumn, CountDiffers}
use Rattle.var_typing.specs.declared.header.Columns.{Columns}
use Rattle.var_typing.specs.declared.header.Header.{Header}
use Rattle.var_typing.specs.Refusals.{where_true, ◌or_else◌, in_turn}
use Rattle.var_typing.specs.Scope.{is_tuple, variable_named, place_named}

-- a name that is no variable has to be a legal table label
abbrev pub name_label_fault : Text → Option TypeFault
name_label_fault t = where_true (not (is_table_label t)) (BadLabel t)

-- the view database is no variable
abbrev pub database_fault : Text → Option ℕ → Option TypeFault
database_fault x None = name_label_fault x
database_fault x (Some k) = Some (WrongKind x)

-- the table label is no tuple variable
abbrev pub label_fault : List RawDecl → Text → Option ℕ → Option TypeFault
label_fault ds x None = name_label_fault x
label_fault ds x (Some k) = where_true (is_tuple ds k) (WrongKind x)

abbrev pub is_variable : Place → Bool
is_variable (place.Var k) = true
is_variable (place.Fixed t) = false

abbrev pub constant_text : Place → Option Text
constant_text (place.Var k) = None
constant_text (place.Fixed t) = Some t

-- what the columns stand for
abbrev pub column_places : List RawDecl → List Name → List Place
column_places ds columns = map (place_named ds) columns

-- the constant columns, in order
abbrev pub constants_of : List Place → Row
constants_of columns = filter_map constant_text columns

-- a column x, where these constants stand before and perhaps a variable: at most one column is a variable, which is no
-- tuple variable, and no constant stands twice
abbrev pub column_after : List RawDecl → Row → Bool → Text → Option ℕ → Option TypeFault
column_after ds constants varies x None = where_true (is_in x constants) (ColumnTwice x)
column_after ds constants varies x (Some k) = where_true (is_tuple ds k) (WrongKind x) or_else where_true varies (TwoVariableColumns x)

abbrev pub column_fault : List RawDecl → List Name → Name → Option TypeFault
column_fault ds before n = column_after ds (constants_of places) (list_any is_variable places) n.text (variable_named ds n)
  where
    places : List Place
    places = column_places ds before

abbrev pub is_empty : Row → Bool
is_empty [] = true
is_empty (t ∷ ts) = false

abbrev pub columns_fault : List RawDecl → List Name → Option TypeFault
columns_fault ds columns =
    in_turn (column_fault ds) [] columns or_else where_true (is_empty (constants_of (column_places ds columns))) NoConstantColumn

-- as many terms as columns
abbrev pub count_fault : ViewTree → Option TypeFault
count_fault t = where_true (not (nat_eq (length t.columns) (length t.select))) (CountDiffers (length t.columns) (length t.select))

abbrev pub header_fault : ViewTree → Option TypeFault
header_fault t =
    database_fault t.view_db.text (variable_named t.decls t.view_db)
    or_else label_fault t.decls t.label.text (variable_named t.decls t.label)
    or_else columns_fault t.decls t.columns

-- what columns stand for: their constants, the place of its variable, and the variable
abbrev pub Parts : Type 0
Parts = Row × Option ℕ × Option Place

abbrev pub parts_of : List Place → Parts
parts_of places = (constants_of places, position is_variable places, find is_variable places)

abbrev pub column_parts : Columns → Parts
column_parts h = (h.constants.keys, h.spot, h.column)

-- with one more column at this place
abbrev pub with_column : ℕ → Place → Parts → Parts
with_column spot (place.Fixed t) parts = (parts.0 ++ t ∷ [], parts.1, parts.2)
with_column spot (place.Var k) parts = (parts.0, Some spot, Some (place.Var k))

-- the view database, the table label and the columns
abbrev pub header_of : ViewTree → Text × Place × Parts
header_of t = (t.view_db.text, place_named t.decls t.label, parts_of (column_places t.decls t.columns))

abbrev pub header_parts : Header → Text × Place × Parts
header_parts h = (h.view_db, h.label, column_parts h.columns)
