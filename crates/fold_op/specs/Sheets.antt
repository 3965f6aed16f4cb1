-- Sheets as plain lists, and their changes.
use Rattle.std.specs.Prelude.{◌≡◌, ◌<◌, ℕ, IsTrue, List, [], ◌∷◌, ◌++◌, length, map, remove, slice_set, bytes_eq, false}
use Rattle.std.specs.List.{list_any, AllByRecursion, IsDistinct}
use Rattle.ss_text.specs.Texts.{Text, Row, row_eq, is_in}
use Rattle.operator_law.specs.Bags.{less_first}
use Rattle.fold_op.specs.declared.change.SheetChange.{SheetChange}
use Rattle.fold_op.specs.declared.change.SheetChange.TheVariants.{Up, Down, Add, Drop, Rename, Born, Gone}

-- the attributes and the rows; the absent sheet has neither
abbrev pub SheetValue : Type 0
SheetValue = Row × List Row

abbrev pub absent : SheetValue
absent = ([], [])

-- distinct attributes, and rows of as many texts
pub record IsSheet (x : SheetValue) : Type 0 where
  pub distinct : IsDistinct bytes_eq x.0
  pub fits : AllByRecursion (λ (row : Row). length row ≡ length x.0) x.1

-- rows with a text last in each, and without the text at a place
abbrev pub with_last : Text → List Row → List Row
with_last fill rows = map (λ row. row ++ fill ∷ []) rows

abbrev pub less_place : ℕ → List Row → List Row
less_place place rows = map (λ row. remove row place) rows

-- the sheet after a change
abbrev pub sheet_after : SheetChange → SheetValue → SheetValue
sheet_after (Up row) x = (x.0, x.1 ++ row ∷ [])
sheet_after (Down row) x = (x.0, less_first row x.1)
sheet_after (Add name fill) x = (x.0 ++ name ∷ [], with_last fill x.1)
sheet_after (Drop place) x = (remove x.0 place, less_place place x.1)
sheet_after (Rename place to) x = (slice_set x.0 place to, x.1)
sheet_after (Born attributes) x = (attributes, [])
sheet_after Gone x = absent

-- which changes a sheet can have
abbrev pub FitsSheet : SheetChange → SheetValue → Type 0
FitsSheet (Up row) x = length row ≡ length x.0
FitsSheet (Down row) x = IsTrue (list_any (row_eq row) x.1)
FitsSheet (Add name fill) x = is_in name x.0 ≡ false
FitsSheet (Drop place) x = place < length x.0
FitsSheet (Rename place to) x = (place < length x.0) × (is_in to x.0 ≡ false)
FitsSheet (Born attributes) x = (x ≡ absent) × IsDistinct bytes_eq attributes
FitsSheet Gone x = Unit {0}
