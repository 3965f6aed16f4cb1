-- The records of a file.
use Rattle.std.specs.Prelude.{ℕ, List}
use Rattle.csv.specs.Reading.{default_config, records, strip_bom}
use Rattle.ss_text.specs.Texts.{Row}

-- what `csv` reads from the bytes, with comma and double quote and no header of its own; one byte order mark at the front is passed over
unfoldable pub records_of : List ℕ → List Row
records_of bytes = records default_config (strip_bom bytes)
