-- What contracts see of tables that are kept.
use Rattle.std.specs.Prelude.{Vec, Option}
use Rattle.std.proofs.Common.{Global}
use Rattle.flow_law.specs.declared.line.TableLine.{TableLine}
use Rattle.flow_law.specs.Tables.{TablesValue}

-- the tables, and the lines that wait
pub record KeptTablesValue : Type 0 where
  pub tables : TablesValue
  pub waiting : Option (Vec TableLine Global)

abbrev pub kept_tables : TablesValue → Option (Vec TableLine Global) → KeptTablesValue
kept_tables tables waiting = record { tables = tables; waiting = waiting }
