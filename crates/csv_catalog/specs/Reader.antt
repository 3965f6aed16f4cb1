-- A reader of bytes in memory that gives one record after the other.
use Rattle.std.specs.Prelude.{◌≡◌, ◌<◌, ℕ, List, [], ◌∷◌, ◌++◌, length, false, Option, Some, None}
use Rattle.std.specs.Borrow.{Bor}
use Rattle.std.specs.Option.{unwrap_or}
use Rattle.csv.specs.Machine.{ends_at_end}
use Rattle.csv.specs.Reading.{Reached, Ready, default_config, source_of, strip_bom}
use Rattle.csv.specs.declared.reader.Reader.{Reader}
use Rattle.csv.specs.declared.reader.Trim.TheVariants as trim
use Rattle.csv.specs.declared.parser.State.TheVariants as st
use Rattle.ss_text.specs.Texts.{Row}
use Rattle.csv_catalog.specs.Records.{records_of}

abbrev pub BytesReader : Type 0
BytesReader = Reader (Bor (List ℕ))

abbrev pub bytes_of : Bor (List ℕ) → Option (List ℕ)
bytes_of s = Some s.now

-- the bytes that are left
abbrev pub left_of : BytesReader → List ℕ
left_of r = unwrap_or (source_of bytes_of r) []

-- a reader of these bytes that gave these rows
pub record IsAt (bytes : List ℕ) (rows : List Row) (r : BytesReader) : Type 0 where
  pub plain : r.trim ≡ trim.None
  pub ready : Ready r
  pub config : r.config ≡ default_config
  pub source : source_of bytes_of r ≡ Some (left_of r)
  pub between : ends_at_end r.state ≡ false
  pub reached : Reached default_config st.StartRecord (strip_bom bytes) rows r.state (left_of r)

-- what it gave next: one more row, and fewer bytes are left, or nothing, and these rows are all
abbrev pub HasGiven : List ℕ → List Row → Option Row → BytesReader → BytesReader → Type 0
HasGiven bytes rows None old new = rows ≡ records_of bytes
HasGiven bytes rows (Some row) old new = IsAt bytes (rows ++ row ∷ []) new × (length (left_of new) < length (left_of old))
