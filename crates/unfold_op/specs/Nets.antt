-- The counts before and after a change.
use Rattle.std.specs.Prelude.{nat_lt}
use Rattle.std.specs.List.{filter_map}
use Rattle.std.specs.Prelude.{List, filter, ◌++◌}
use Rattle.ss_text.specs.Texts.{Text, row_eq, text_eq}
use Rattle.ss_text.specs.Ascending.{ascending}
use Rattle.flow_law.specs.declared.line.TableLine.{TableLine}
use Rattle.counts.specs.Counted.{counted, keys_of, after, CanMove}
use Rattle.unfold_op.specs.declared.facts.FactCounts.{FactCounts}
use Rattle.unfold_op.specs.declared.facts.Nets.{Nets}
use Rattle.unfold_op.specs.Touched.{Entry, entry_eq, entry_cmp}
use Rattle.unfold_op.specs.Kept.{Tallies, held, held_at, value_held, value_among, places_of, place_line, outer_lines}

abbrev pub before : FactCounts → Tallies
before k = record { keys = counted row_eq k.keys; columns = counted text_eq k.columns; entries = held k.cells }

abbrev pub now : FactCounts → Nets → Tallies
now k n = record {
  keys = after row_eq (counted row_eq k.keys) n.keys;
  columns = after text_eq (counted text_eq k.columns) n.columns;
  entries = after entry_eq (held k.cells) n.entries;
}

-- no count falls below 0, and none gets too large
pub record CanMoveAll (k : FactCounts) (n : Nets) : Type 0 where
  pub keys : CanMove row_eq (counted row_eq k.keys) n.keys
  pub columns : CanMove text_eq (counted text_eq k.columns) n.columns
  pub entries : CanMove entry_eq (held k.cells) n.entries

-- the entries at the named places that are there after the change
abbrev pub present_of : FactCounts → Nets → List Entry
present_of k n = filter (λ e. nat_lt 0 ((now k n).entries e)) (ascending entry_cmp ((keys_of n.entries) ++ filter_map (held_at k.cells) (places_of (keys_of n.entries))))

-- the lines of the change
abbrev pub net_lines : Text → FactCounts → Nets → List TableLine
net_lines label k n =
    outer_lines label (before k) (now k n) (keys_of n.keys) (keys_of n.columns)
    ++ filter_map (place_line label (now k n).keys (now k n).columns (value_held k.cells) (value_among (present_of k n))) (places_of (keys_of n.entries))
