-- A writer into memory, between the fields of a record.
use Rattle.std.specs.Prelude.{◌≡◌, ℕ, ◌-◌, ◌^◌, ◌==◌, ◌||◌, ◌&&◌, not, List, ◌++◌, length, min}
use Rattle.std.specs.Global.{Vec}
use Rattle.csv.specs.declared.writer.Writer.{Writer}
use Rattle.csv.specs.Writing.{default_writer, writer_setup, fields_written, has_written, is_blank, row_body}
use Rattle.ss_text.specs.Texts.{Row}
use Rattle.csv_catalog.specs.Written.{written}

-- records of this text were ended, and these are the fields of the next so far
pub record IsWithin (ended : List ℕ) (fields : Row) (w : Writer (Vec ℕ)) : Type 0 where
  pub setup : writer_setup w ≡ default_writer
  pub count : fields_written w ≡ min (length fields) (2 ^ 64 - 1)
  pub text : written w ≡ ended ++ row_body default_writer fields
  pub blank : is_blank default_writer fields ≡ (not (has_written w) && ((length fields == 0) || (length fields == 1)))
