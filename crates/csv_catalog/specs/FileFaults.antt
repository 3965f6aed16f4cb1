-- What is wrong in the records of a file.
use Rattle.std.specs.Prelude.{ℕ, ◌+◌, not, ◌==◌, nat_le, nat_lt, List, [], ◌∷◌, ◌++◌, length, Option, Some, None, option_map, if◌then◌else◌}
use Rattle.std.specs.Option.{option_or}
use Rattle.ss_text.specs.Texts.{Text, Row, is_in}
use Rattle.csv_catalog.specs.declared.fault.LoadFault.{LoadFault}
use Rattle.csv_catalog.specs.declared.fault.LoadFault.TheVariants as load
use Rattle.csv_catalog.specs.declared.judge.FileFault.{FileFault}
use Rattle.csv_catalog.specs.declared.judge.FileFault.TheVariants.{NoRecord, TooWide, Repeated, OtherLength, TooMany}
use Rattle.schema_model.specs.declared.Which.TheVariants as which
use Rattle.schema_model.specs.Limits.{most_rows, most_attributes}

-- the first of these texts that is among those seen or stands earlier
unfoldable pub repeated_after : Row → Row → Option Text
repeated_after seen [] = None
repeated_after seen (t ∷ ts) = if is_in t seen then Some t else repeated_after (seen ++ t ∷ []) ts

-- the text of the first place whose text stands earlier too
abbrev pub first_repeated : Row → Option Text
first_repeated names = repeated_after [] names

-- a row that has another length than the header, or is one row too many; nth is the number of its record, and count that of the rows before it
abbrev pub row_fault : ℕ → ℕ → ℕ → Row → Option FileFault
row_fault want nth count row = if not (length row == want) then Some (OtherLength nth want (length row)) else if nat_le most_rows count then Some TooMany else None

-- the first row that has another length than the header, or is one row too many; nth is the number of its record, and count that of the rows of all relations before it
unfoldable pub rows_fault : ℕ → ℕ → ℕ → List Row → Option FileFault
rows_fault want nth count [] = None
rows_fault want nth count (row ∷ rows) =
    if not (length row == want) then Some (OtherLength nth want (length row))
    else if nat_le most_rows count then Some TooMany
    else rows_fault want (nth + 1) (count + 1) rows

-- too many attributes, or one that is named twice
abbrev pub header_fault : Row → Option FileFault
header_fault header = if nat_lt most_attributes (length header) then Some TooWide else option_map Repeated (first_repeated header)

-- the first fault of a file with these records, where so many rows were counted before
unfoldable pub file_fault : ℕ → List Row → Option FileFault
file_fault count [] = Some NoRecord
file_fault count (header ∷ rows) = option_or (header_fault header) (rows_fault (length header) 2 count rows)

-- the first record, and those after it
abbrev pub header_of : List Row → Row
header_of [] = []
header_of (header ∷ rows) = header

abbrev pub rows_of : List Row → List Row
rows_of [] = []
rows_of (header ∷ rows) = rows

-- a file's fault, told with the names of the database and of the file
abbrev pub told_fault : Text → Text → FileFault → LoadFault
told_fault db file NoRecord = load.NoHeader db file
told_fault db file TooWide = load.Limit which.Attributes
told_fault db file (Repeated name) = load.NameTwice db file name
told_fault db file (OtherLength nth want got) = load.Ragged db file nth want got
told_fault db file TooMany = load.Limit which.Rows
