-- Signed rows as moves of facts.
use Rattle.std.specs.Prelude.{List, ◌+◌, Option, map, option_map, length, slice_range}
use Rattle.ss_text.specs.Texts.{Text, Row}
use Rattle.flow_law.specs.declared.shape.Shape.{Shape}
use Rattle.flow_law.specs.Facts.{Fact, column_of}
use Rattle.flow_law.specs.FactRows.{fact_in}
use Rattle.counts.specs.declared.moves.Move.{Move}
use Rattle.unfold_op.specs.Touched.{Entry, entry_of}
use Rattle.operator_law.specs.declared.delta.Signed.{Signed}

module _ (shape : Shape) where
  -- the facts of rows
  abbrev pub facts_in : List Row → List Fact
  facts_in rows = map (fact_in shape) rows

  -- what rows that come and go move
  abbrev pub fact_move : Signed → Move Fact
  fact_move m = record { key = fact_in shape m.row; up = m.up }

  abbrev pub fact_moves : List Signed → List (Move Fact)
  fact_moves ms = map fact_move ms

  -- the facts that come or go
  abbrev pub facts_moved : List Signed → List Fact
  facts_moved ms = map (λ (m : Move Fact). m.key) (fact_moves ms)

  -- the moves of the parts of a fact
  abbrev pub key_move : Signed → Move Row
  key_move m = record { key = slice_range m.row 1 (length shape.constants + 1); up = m.up }

  abbrev pub column_move : Signed → Option (Move Text)
  column_move m = option_map (λ c. record { key = c; up = m.up }) (column_of (fact_in shape m.row))

  abbrev pub entry_move : Signed → Option (Move Entry)
  entry_move m = option_map (λ e. record { key = e; up = m.up }) (entry_of (fact_in shape m.row))
