-- Rows that are a relation's own, or shared with its copies.
use Rattle.std.specs.Prelude.{Bool, List, [], is_some, unwrap_or}
use Rattle.std.specs.Option.{option_map_or}
use Rattle.ss_text.specs.Texts.{Row}
use Rattle.schema_model.specs.Placed.{Placed}
use Rattle.schema_model.specs.RowsKept.{placed_in, waiting_in}
use Rattle.schema_model.specs.declared.rows.Rows.{Rows}
use Rattle.schema_model.specs.declared.held.Held.{Held}

-- its own rows where it has some, and else those that it shares
abbrev pub rows_held : Held → Rows
rows_held h = unwrap_or h.own h.home.value

abbrev pub placed_held : Held → Placed
placed_held h = placed_in (rows_held h)

-- rows wait only to be added to its own
abbrev pub waiting_held : Held → List Row
waiting_held h = option_map_or waiting_in h.own []

abbrev pub is_own : Held → Bool
is_own h = is_some h.own
