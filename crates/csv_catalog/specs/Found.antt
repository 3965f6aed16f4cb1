-- What is found of a file that is there or missing.
use Rattle.std.specs.Prelude.{◌≡◌, ℕ, List, Option, Some, None, option_map}
use Rattle.csv_catalog.specs.declared.found.Found.{Found}
use Rattle.csv_catalog.specs.declared.found.Found.TheVariants.{Missing, Whole, Refused}
use Rattle.csv_catalog.specs.FileFaults.{file_fault}
use Rattle.csv_catalog.specs.Records.{records_of}

-- it is missing, these are its bytes, or this is its first fault, where so many rows were counted before
abbrev pub IsFound : ℕ → Option (List ℕ) → Found → Type 0
IsFound count held Missing = None ≡ held
IsFound count held (Whole bytes) = Some bytes ≡ held
IsFound count held (Refused fault) = option_map (λ bytes. file_fault count (records_of bytes)) held ≡ Some (Some fault)
