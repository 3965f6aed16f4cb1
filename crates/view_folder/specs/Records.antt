-- The table that the records of a file are, in the form of a view.
use Rattle.std.specs.Prelude.{ℕ, ◌+◌, ◌-◌, Bool, true, ◌==◌, ◌&&◌, List, [], ◌∷◌, ◌++◌, length, map, take, drop, Option, None, Some, is_some, option_map, unwrap_or, if◌then◌else◌}
use Rattle.std.specs.Option.{option_or}
use Rattle.std.specs.List.{list_all}
use Rattle.std.specs.Ordering.{is_lt}
use Rattle.std.specs.declared.cmp.Ordering.{Ordering}
use Rattle.ss_text.specs.Texts.{Text, Row, text_cmp, row_cmp, row_eq}
use Rattle.ss_text.specs.Label.{is_column_label}
use Rattle.csv_catalog.specs.FileFaults.{first_repeated, header_of, rows_of}
use Rattle.flow_law.specs.declared.shape.Shape.{Shape}
use Rattle.flow_law.specs.Tables.{TableValue, table_value}
use Rattle.view_folder.specs.declared.held.TablesFault.{TablesFault}
use Rattle.view_folder.specs.declared.held.TablesFault.TheVariants.{NoHeader, NameTwice, Ragged, NotThisView}

-- whether each is less than all behind it
abbrev pub ascends : {A : Type 0} → (A → A → Ordering) → List A → Bool
ascends cmp [] = true
ascends cmp (x ∷ xs) = list_all (λ y. is_lt (cmp x y)) xs && ascends cmp xs

-- the texts of a record that stand behind as many constant columns as the spot says, which are all without a variable column
abbrev pub behind_spot : Shape → Row → Row
behind_spot shape row = drop (unwrap_or shape.spot (length shape.constants)) row

abbrev pub before_spot : Shape → Row → Row
before_spot shape row = take (unwrap_or shape.spot (length shape.constants)) row

-- how many texts of a record are not of constant columns
abbrev pub dynamic_count : Shape → Row → ℕ
dynamic_count shape row = length row - length shape.constants

-- the dynamic columns' part of a record, and the constant columns' part
abbrev pub dynamic_part : Shape → Row → Row
dynamic_part shape row = take (dynamic_count shape row) (behind_spot shape row)

abbrev pub constant_part : Shape → Row → Row
constant_part shape row = before_spot shape row ++ drop (dynamic_count shape row) (behind_spot shape row)

-- whether these may be the dynamic columns: ascending legal labels, where there is a variable column
abbrev pub are_columns : Shape → Row → Bool
are_columns shape columns = ascends text_cmp columns && list_all (λ column. is_some shape.spot && is_column_label column shape.constants) columns

-- whether a header is the constant columns with such columns at their place
abbrev pub is_header : Shape → Row → Bool
is_header shape header = row_eq (constant_part shape header) shape.constants && are_columns shape (dynamic_part shape header)

-- the key and the cells of a row
abbrev pub key_and_cells : Shape → Row → Row × Row
key_and_cells shape row = (constant_part shape row, dynamic_part shape row)

-- whether a header and rows are those of a table of the view: the keys ascend
abbrev pub are_of_view : Shape → Row → List Row → Bool
are_of_view shape header rows = is_header shape header && ascends row_cmp (map (constant_part shape) rows)

-- the table of a header and rows, and of the records of a file
abbrev pub table_under : Shape → Row → List Row → TableValue
table_under shape header rows = table_value (dynamic_part shape header) (map (key_and_cells shape) rows)

abbrev pub table_in : Shape → List Row → TableValue
table_in shape records = table_under shape (header_of records) (rows_of records)

-- the number of the first record behind a header that has another number of fields than it, and how many; nth is that of the first of these
unfoldable pub ragged : ℕ → ℕ → List Row → Option (ℕ × ℕ)
ragged want nth [] = None
ragged want nth (row ∷ rows) = if length row == want then ragged want (nth + 1) rows else Some (nth, length row)

-- why a header and rows of its length are no table of the view
abbrev pub view_fault : Shape → Text → Row → List Row → Option TablesFault
view_fault shape file header rows = if are_of_view shape header rows then None else Some (NotThisView file)

-- why a header that names each column once and rows are none
abbrev pub lengths_fault : Shape → Text → Row → List Row → Option TablesFault
lengths_fault shape file header rows = option_or (option_map (λ (r : ℕ × ℕ). Ragged file r.0 (length header) r.1) (ragged (length header) 2 rows)) (view_fault shape file header rows)

-- why a header and rows are none
abbrev pub rows_fault : Shape → Text → Row → List Row → Option TablesFault
rows_fault shape file header rows = option_or (option_map (NameTwice file) (first_repeated header)) (lengths_fault shape file header rows)

-- why the records of a file are none
abbrev pub records_fault : Shape → Text → List Row → Option TablesFault
records_fault shape file [] = Some (NoHeader file)
records_fault shape file (header ∷ rows) = rows_fault shape file header rows
