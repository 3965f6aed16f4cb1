-- What is given of a sheet, and how a change of the sheet moves it.
use Rattle.std.specs.Prelude.{List}
use Rattle.ss_text.specs.Texts.{Row}
use Rattle.schema_model.specs.States.{RelationState, plain_relation}
use Rattle.operator_law.specs.declared.delta.Signed.{Signed}
use Rattle.operator_law.specs.Bags.{MovesBag}
use Rattle.fold_op.specs.declared.change.SheetChange.{SheetChange}
use Rattle.fold_op.specs.Sheets.{SheetValue, sheet_after}
use Rattle.schema_delta.specs.Flat.{sheet_of}

-- a relation as a sheet
abbrev pub sheet_in : RelationState → SheetValue
sheet_in r = sheet_of (plain_relation r)

-- the moves take what is given of a sheet to what is given of it after a change
abbrev pub MovesGiven : (SheetValue → List Row) → SheetChange → SheetValue → List Signed → Type 0
MovesGiven given g x ms = MovesBag (given x) ms (given (sheet_after g x))
