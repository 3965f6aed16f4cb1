-- Rows as they are kept: listed by their numbers, or linked.
use Rattle.std.specs.Prelude.{List}
use Rattle.ss_text.specs.Texts.{Row}
use Rattle.schema_model.specs.Placed.{Placed, numbered}
use Rattle.schema_model.specs.declared.rows.Rows.{Rows}
use Rattle.schema_model.specs.declared.rows.Rows.TheVariants.{Listed, Linked}

-- the rows, each behind its place
abbrev pub placed_in : Rows → Placed
placed_in (Listed rows) = numbered 0 rows.rows
placed_in (Linked rows) = rows.live

-- those that were made ready to be added
abbrev pub waiting_in : Rows → List Row
waiting_in (Listed rows) = rows.waiting
waiting_in (Linked rows) = rows.waiting
