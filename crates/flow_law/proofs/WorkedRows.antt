-- Worked rows: the offices that keep departments as columns, as tables and as values.
use Rattle.std.proofs.Common.{◌≡◌, refl, List, [], ◌∷◌, Option, Some, None, true, false}
use Rattle.std.specs.Prelude.{codes}
use Rattle.std.specs.Str.{is_utf8, chars}
use Rattle.ss_text.specs.Texts.{Text, Row}
use Rattle.ss_text.specs.Label.{is_table_label, is_column_label}
use Rattle.flow_law.specs.Facts.{Fact, conflict, illegal}
use Rattle.flow_law.specs.Tables.{TablesValue, table_value, empty_table}
use Rattle.flow_law.specs.FactTables.{tables}
use Rattle.flow_law.specs.Script.{script}
use Rattle.flow_law.specs.Lines.{after_lines, fit_lines}
use Rattle.flow_law.specs.declared.shape.Shape.{Shape}
use Rattle.flow_law.specs.declared.line.TableLine.TheVariants.{TableMinus, RowMinus, ColumnMinus, ColumnPlus, RowPlus, Cell}

abbrev fact : Text → Text → Text → Text → Fact
fact label key column value = record { label = label; key = key ∷ []; cell = Some (column, value) }

abbrev plain_fact : Text → Row → Fact
plain_fact label key = record { label = label; key = key; cell = None }

abbrev wide : Shape
wide = record { label = Some (codes "salInfo"); constants = codes "category" ∷ []; spot = Some 1 }

abbrev salary : Text → Text → Text → Fact
salary = fact (codes "salInfo")

abbrev salaries : List Fact
salaries =
    salary (codes "Prof") (codes "cs") (codes "72000")
    ∷ salary (codes "Prof") (codes "math") (codes "65000")
    ∷ salary (codes "Assoc") (codes "cs") (codes "60000") ∷ []

abbrev wide_table : TablesValue
wide_table = (
  codes "salInfo",
  table_value (codes "cs" ∷ codes "math" ∷ [])
      ((codes "Assoc" ∷ [], codes "60000" ∷ [] ∷ []) ∷ (codes "Prof" ∷ [], codes "72000" ∷ codes "65000" ∷ []) ∷ []),
) ∷ []

-- values to columns
departments_as_columns : tables wide salaries ≡ wide_table
unfolding tables
departments_as_columns = refl

abbrev split : Shape
split = record { label = None; constants = codes "category" ∷ codes "salFloor" ∷ []; spot = None }

abbrev paid : Text → Text → Text → Fact
paid label category floor = plain_fact label (category ∷ floor ∷ [])

abbrev split_tables : TablesValue
split_tables =
    (codes "cs", table_value [] ((codes "Assoc" ∷ codes "60000" ∷ [], []) ∷ (codes "Prof" ∷ codes "72000" ∷ [], []) ∷ []))
    ∷ (codes "math", table_value [] ((codes "Prof" ∷ codes "65000" ∷ [], []) ∷ [])) ∷ []

-- values to tables
departments_as_tables :
    tables split (paid (codes "cs") (codes "Prof") (codes "72000") ∷ paid (codes "math") (codes "Prof") (codes "65000") ∷ paid (codes "cs") (codes "Assoc") (codes "60000") ∷ [])
    ≡ split_tables
unfolding tables
departments_as_tables = refl

-- a constant label has its table without facts, a variable one has none
no_facts : tables wide [] ≡ (codes "salInfo", empty_table) ∷ []
unfolding tables
no_facts = refl

no_facts_no_table : tables split [] ≡ []
unfolding tables
no_facts_no_table = refl

-- an empty value makes its row and its column
empty_value : tables wide (salary (codes "Lect") (codes "bio") [] ∷ []) ≡ (codes "salInfo", table_value (codes "bio" ∷ []) ((codes "Lect" ∷ [], [] ∷ []) ∷ [])) ∷ []
unfolding tables
empty_value = refl

abbrev with_physics : List Fact
with_physics = salary (codes "Prof") (codes "physics") (codes "70000") ∷ salaries

-- one more value is one more column
one_more_column : script wide_table (tables wide with_physics)
    ≡ ColumnPlus (codes "salInfo") (codes "physics") ∷ Cell (codes "salInfo") (codes "physics") (codes "70000") (codes "Prof" ∷ []) ∷ []
unfolding tables script
one_more_column = refl

one_column_less : script (tables wide with_physics) wide_table ≡ ColumnMinus (codes "salInfo") (codes "physics") ∷ []
unfolding tables script
one_column_less = refl

all_gone : script wide_table ((codes "salInfo", empty_table) ∷ [])
    ≡ RowMinus (codes "salInfo") (codes "Assoc" ∷ []) ∷ RowMinus (codes "salInfo") (codes "Prof" ∷ [])
    ∷ ColumnMinus (codes "salInfo") (codes "cs") ∷ ColumnMinus (codes "salInfo") (codes "math") ∷ []
unfolding script
all_gone = refl

table_gone : script split_tables (tables split (paid (codes "cs") (codes "Assoc") (codes "60000") ∷ []))
    ≡ RowMinus (codes "cs") (codes "Prof" ∷ codes "72000" ∷ []) ∷ TableMinus (codes "math") ∷ []
unfolding tables script
table_gone = refl

-- a cell whose value becomes empty keeps its row and its column
cell_emptied : script (tables wide (salary (codes "Prof") (codes "cs") [] ∷ salary (codes "Prof") (codes "cs") (codes "5") ∷ [])) (tables wide (salary (codes "Prof") (codes "cs") [] ∷ []))
    ≡ Cell (codes "salInfo") (codes "cs") [] (codes "Prof" ∷ []) ∷ []
unfolding tables script
cell_emptied = refl

new_row : script wide_table (tables wide (salary (codes "Lect") (codes "a/b") (codes "1") ∷ salaries))
    ≡ ColumnPlus (codes "salInfo") (codes "a/b") ∷ RowPlus (codes "salInfo") (codes "Lect" ∷ []) ∷ Cell (codes "salInfo") (codes "a/b") (codes "1") (codes "Lect" ∷ []) ∷ []
unfolding tables script
new_row = refl

-- two values for one cell
two_values : conflict (salary (codes "Prof") (codes "cs") (codes "99") ∷ salaries)
    ≡ Some (record { table = codes "salInfo"; column = codes "cs"; first = codes "72000"; second = codes "99"; key = codes "Prof" ∷ [] })
unfolding conflict
two_values = refl

no_clash : conflict (salary (codes "Prof") (codes "cs") (codes "72000") ∷ salary (codes "Prof") (codes "cs") [] ∷ salaries) ≡ None
unfolding conflict
no_clash = refl

-- a label with a slash names no table, and a constant column's name no column
slash : illegal split (paid (codes "cs") (codes "Prof") (codes "1") ∷ paid (codes "a/b") (codes "Lect") (codes "1") ∷ []) ≡ Some (record { table = codes "a/b"; column = None })
unfolding illegal is_table_label is_column_label is_utf8 chars lib.Utf8.encode
slash = refl

constant_name : illegal wide (salary (codes "Prof") (codes "category") (codes "1") ∷ salaries) ≡ Some (record { table = codes "salInfo"; column = Some (codes "category") })
unfolding illegal is_table_label is_column_label is_utf8 chars lib.Utf8.encode
constant_name = refl

-- the lines of a script take the old tables to the new ones, each fitting
applied : TablesValue → TablesValue → Option TablesValue
applied old new = elim (fit_lines old (script old new)) [ true ↦ Some (after_lines old (script old new)) | false ↦ None ]

forth : applied wide_table (tables wide with_physics) ≡ Some (tables wide with_physics)
unfolding applied tables script
forth = refl

back : applied (tables wide with_physics) wide_table ≡ Some wide_table
unfolding applied tables script
back = refl

from_nothing : applied [] split_tables ≡ Some split_tables
unfolding applied script
from_nothing = refl

to_nothing : applied split_tables [] ≡ Some []
unfolding applied script
to_nothing = refl

across : applied split_tables wide_table ≡ Some wide_table
unfolding applied script
across = refl
