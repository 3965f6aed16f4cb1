-- What the fields of an operator for one table are to each other.
use Rattle.std.specs.Prelude.{◌≡◌, ◌+◌, ℕ, List, Some, None, not, count_by}
use Rattle.std.specs.Option.{option_map}
use Rattle.ss_text.specs.Texts.{Text}
use Rattle.flow_law.specs.declared.shape.Shape.{Shape}
use Rattle.unfold_op.specs.declared.facts.FactCounts.{FactCounts}
use Rattle.unfold_op.specs.declared.facts.Nets.{Nets}
use Rattle.unfold_op.specs.Moves.{AreNets}
use Rattle.unfold_op.specs.Stored.{IsReady, HasRoom}
use Rattle.operator_law.specs.declared.delta.Signed.{Signed}
use Rattle.unfold_op.specs.declared.one_table.Waiting.{Waiting}
use Rattle.unfold_op.specs.declared.one_table.OneTable.{OneTable}
use Rattle.unfold_op.specs.FactMoves.{fact_moves}
use Rattle.unfold_op.specs.OneTables.{OneTableValue, BearsOne, label_for}

abbrev pub seen : OneTable → OneTableValue
seen t = record {
  shape = t.shape;
  counts = t.counts;
  label = t.label;
  total = t.total;
  waiting = option_map (λ w. w.of.value) t.waiting;
}

-- how many rows come, and how many go
abbrev pub ups : List Signed → ℕ
ups ms = count_by (λ (m : Signed). m.up) ms

abbrev pub downs : List Signed → ℕ
downs ms = count_by (λ (m : Signed). not m.up) ms

-- what waits was made ready for these counts
pub record IsReadyFor (shape : Shape) (counts : FactCounts) (label : Text) (total : ℕ) (w : Waiting) : Type 0 where
  pub nets : Nets
  pub are_nets : AreNets nets (fact_moves shape w.of.value)
  pub ready : IsReady counts nets w.counts
  pub room : HasRoom counts w.counts
  pub bears : BearsOne shape label total w.of.value
  pub label_is : w.label ≡ label_for shape label w.of.value
  pub total_is : total + ups w.of.value ≡ w.total + downs w.of.value

-- the label is a variable, and what waits is ready
pub record IsOneTable (t : OneTable) : Type 0 where
  pub variable : t.shape.label ≡ None
  pub ready : (w : Waiting) → t.waiting ≡ Some w → IsReadyFor t.shape t.counts t.label t.total w
