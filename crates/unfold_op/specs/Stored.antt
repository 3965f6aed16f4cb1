-- What is stored when a change is made.
use Rattle.indexmap.specs.IndexMap.{get, spare}
use Rattle.std.specs.Prelude.{◌≡◌, ◌≤◌, ℕ, map, Option, option_map, length}
use Rattle.std.specs.Map.{lookup}
use Rattle.ss_text.specs.Texts.{Text, Row, row_eq, text_eq}
use Rattle.counts.specs.Counted.{counted, keys_of, new_counts}
use Rattle.unfold_op.specs.declared.facts.FactCounts.{FactCounts}
use Rattle.unfold_op.specs.declared.facts.Nets.{Nets}
use Rattle.unfold_op.specs.declared.ready.NewCounts.{NewCounts}
use Rattle.unfold_op.specs.Touched.{Place, place_eq}
use Rattle.unfold_op.specs.Kept.{places_of}
use Rattle.unfold_op.specs.Nets.{now, present_of}

-- the value of a place among entries with its count
abbrev pub new_cell : FactCounts → Nets → Place → Option (Text × ℕ)
new_cell k n p = option_map (λ v. (v, (now k n).entries (p, v))) (lookup (place_eq p) (present_of k n))

-- what is made ready for a change: the new counts and the new cells of what it names
pub record IsReady (k : FactCounts) (n : Nets) (r : NewCounts) : Type 0 where
  pub keys : r.keys.items ≡ new_counts row_eq (counted row_eq k.keys) n.keys
  pub columns : r.columns.items ≡ new_counts text_eq (counted text_eq k.columns) n.columns
  pub cells : r.cells.items ≡ map (λ p. (p, new_cell k n p)) (places_of (keys_of n.entries))

-- there is room for what was made ready
pub record HasRoom (k : FactCounts) (r : NewCounts) : Type 0 where
  pub keys : length r.keys.items ≤ spare k.keys
  pub columns : length r.columns.items ≤ spare k.columns
  pub cells : length r.cells.items ≤ spare k.cells

-- the same is kept, perhaps with more room
pub record SameKept (k l : FactCounts) : Type 0 where
  pub keys : (q : Row) → get row_eq l.keys q ≡ get row_eq k.keys q
  pub columns : (q : Text) → get text_eq l.columns q ≡ get text_eq k.columns q
  pub cells : (q : Place) → get place_eq l.cells q ≡ get place_eq k.cells q
