-- A line without a fault fits the tables, and takes them to those after it.
use Rattle.std.proofs.Common.{◌≡◌, Bool, true, false, ◌&&◌, ℕ, Option, Some, None, refl, ◌∙◌}
use Rattle.std.specs.Prelude.{is_some, if◌then◌else◌}
use Rattle.std.specs.Option.{option_or, option_map_or}
use Rattle.std.proofs.lemmas.Bool.{and_parts}
use Rattle.flow_law.specs.declared.shape.Shape.{Shape}
use Rattle.flow_law.specs.declared.line.TableLine.{TableLine}
use Rattle.flow_law.specs.declared.line.TableLine.TheVariants.{TableMinus, TablePlus, RowMinus, ColumnMinus, ColumnPlus, RowPlus, Cell}
use Rattle.flow_law.specs.Tables.{TableValue, TablesValue, table_of}
use Rattle.flow_law.specs.Lines.{label_of, fits_table, fits_line}
use Rattle.change_script.specs.declared.applying.ApplyFault.{ApplyFault}
use Rattle.change_script.specs.declared.applying.ApplyFault.TheVariants.{NoTarget, TargetThere}
use Rattle.change_script.specs.Applied.{key_fault, label_fault, can_have, has_needed, has_added, is_target_there, is_added_there, line_fault}
use Rattle.change_script.proofs.AppliedLaw.{has_table_is}

-- what a fault's tests say where there is none
no_first : {A : Type 0} (a b : Option A) → option_or a b ≡ None → b ≡ None
no_first None b h = h
no_first (Some x) b h = absurd (cc)

target_there : (b : Bool) (rest : Option ApplyFault) → option_or (if b then None else Some NoTarget) rest ≡ None → (b ≡ true) × (rest ≡ None)
target_there true rest h = (refl, h)
target_there false rest h = absurd (cc)

none_there : (b : Bool) → (if b then Some TargetThere else None) ≡ None → b ≡ false
none_there true h = absurd (cc)
none_there false h = refl

tests_of : (shape : Shape) (ts : TablesValue) (line : TableLine) → line_fault shape ts line ≡ None → (is_target_there shape.spot ts line ≡ true) × (is_added_there ts line ≡ false)
tests_of shape ts line h =
    let there = target_there (is_target_there shape.spot ts line) (if is_added_there ts line then Some TargetThere else None) (no_first (label_fault shape.constants line) _ (no_first (key_fault shape.constants line) _ h)) in
    (there.0, none_there (is_added_there ts line) there.1)

-- a line whose needs are there, and what it adds is not, fits its table
fits_it : (line : TableLine) (t : TableValue) → has_needed line t ≡ true → has_added line t ≡ false → fits_table line t ≡ true
fits_it (TableMinus label) t h i = refl
fits_it (TablePlus label) t h i = refl
fits_it (RowMinus label key) t h i = h
fits_it (ColumnMinus label column) t h i = h
fits_it (ColumnPlus label column) t h i = rw i refl
fits_it (RowPlus label key) t h i = rw i refl
fits_it (Cell label column value key) t h i = h

fits_found : (line : TableLine) (o : Option TableValue) → option_map_or (has_needed line) o false ≡ true → option_map_or (has_added line) o false ≡ false → option_map_or (fits_table line) o false ≡ true
fits_found line None h i = absurd (cc)
fits_found line (Some t) h i = fits_it line t h i

found_some : (line : TableLine) (o : Option TableValue) → option_map_or (has_needed line) o false ≡ true → is_some o ≡ true
found_some line None h = absurd (cc)
found_some line (Some t) h = refl

module _ (spot : Option ℕ) (ts : TablesValue) where
  needed : (line : TableLine) → (can_have spot line && option_map_or (has_needed line) (table_of ts (label_of line)) false) ≡ true → option_map_or (has_needed line) (table_of ts (label_of line)) false ≡ true
  needed line h = (and_parts (can_have spot line) _ h).1

  pub tests_fit : (line : TableLine) → is_target_there spot ts line ≡ true → is_added_there ts line ≡ false → fits_line ts line ≡ true
  tests_fit (TableMinus label) h i = has_table_is ts label ∙ found_some (TableMinus label) (table_of ts label) (needed (TableMinus label) h)
  tests_fit (TablePlus label) h i = rw i refl
  tests_fit (RowMinus label key) h i = fits_found (RowMinus label key) (table_of ts label) (needed (RowMinus label key) h) i
  tests_fit (ColumnMinus label column) h i = fits_found (ColumnMinus label column) (table_of ts label) (needed (ColumnMinus label column) h) i
  tests_fit (ColumnPlus label column) h i = fits_found (ColumnPlus label column) (table_of ts label) (needed (ColumnPlus label column) h) i
  tests_fit (RowPlus label key) h i = fits_found (RowPlus label key) (table_of ts label) (needed (RowPlus label key) h) i
  tests_fit (Cell label column value key) h i = fits_found (Cell label column value key) (table_of ts label) (needed (Cell label column value key) h) i

pub no_fault_fits : (shape : Shape) (ts : TablesValue) (line : TableLine) → line_fault shape ts line ≡ None → fits_line ts line ≡ true
no_fault_fits shape ts line h = let tests = tests_of shape ts line h in tests_fit shape.spot ts line tests.0 tests.1
