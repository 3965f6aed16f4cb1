-- The records of a file, judged one after the other.
use Rattle.std.specs.Prelude.{◌≡◌, ℕ, ◌+◌, List, [], ◌∷◌, length, Option, Some, None}
use Rattle.ss_text.specs.Texts.{Row}
use Rattle.csv_catalog.specs.declared.judge.FileFault.{FileFault}
use Rattle.csv_catalog.specs.declared.judge.Judged.{Judged}
use Rattle.csv_catalog.specs.declared.judge.Judged.TheVariants.{Sound, Refused}
use Rattle.csv_catalog.specs.FileFaults.{header_fault, row_fault, file_fault}

-- the first fault of records that others may follow
abbrev pub fault_so_far : ℕ → List Row → Option FileFault
fault_so_far count [] = None
fault_so_far count (header ∷ rows) = file_fault count (header ∷ rows)

-- the fault of the next record, where those before it have none
abbrev pub next_fault : ℕ → List Row → Row → Option FileFault
next_fault count [] row = header_fault row
next_fault count (header ∷ rows) row = row_fault (length header) (2 + length rows) (count + length rows) row

-- the records of a file have no fault, or this is the first
abbrev pub AreJudged : ℕ → List Row → Judged → Type 0
AreJudged count all (Sound records) = (records.items ≡ all) × (file_fault count all ≡ None)
AreJudged count all (Refused fault) = file_fault count all ≡ Some fault
