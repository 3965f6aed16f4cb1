-- The fact with these parts.
use Rattle.std.specs.Prelude.{Option}
use Rattle.ss_text.specs.Texts.{Text, Row}
use Rattle.flow_law.specs.Facts.{Fact}

abbrev pub fact_value : Text → Row → Option (Text × Text) → Fact
fact_value label key cell = record { label = label; key = key; cell = cell }
