-- The lines that are answered, and what stands after a commit.
use Rattle.std.proofs.Common.{◌≡◌, ◌+◌, ℕ, List, Option, Some, None, sym, ◌∙◌, subst, length, arith}
use Rattle.std.specs.Prelude.{nat_lt, option_map}
use Rattle.ss_text.specs.Texts.{Text, Row}
use Rattle.flow_law.specs.declared.shape.Shape.{Shape}
use Rattle.flow_law.specs.declared.line.TableLine.{TableLine}
use Rattle.flow_law.specs.Facts.{Fact, conflict}
use Rattle.counts.specs.declared.moves.Move.{Move}
use Rattle.unfold_op.specs.declared.facts.FactCounts.{FactCounts}
use Rattle.unfold_op.specs.declared.facts.Nets.{Nets}
use Rattle.unfold_op.specs.Moves.{AreNets, IsChange, Stands}
use Rattle.unfold_op.specs.Stored.{IsReady, HasRoom}
use Rattle.flow_law.specs.FactTables.{fact_table}
use Rattle.flow_law.specs.Script.{lines_between}
use Rattle.operator_law.specs.declared.delta.Signed.{Signed}
use Rattle.operator_law.specs.Bags.{MovesBag}
use Rattle.unfold_op.specs.FactMoves.{facts_in, fact_moves}
use Rattle.unfold_op.specs.OneTables.{OneTableValue, KeepsFacts, CanKeep, BearsOne, CanPrepare, Makes, framed, table_lines, label_for}
use Rattle.unfold_op.specs.TableFields.{IsReadyFor, ups, downs}
use Rattle.unfold_op.specs.declared.one_table.Waiting.{Waiting}
use Rattle.unfold_op.proofs.BagMoves.{facts_length}
use Rattle.unfold_op.proofs.Changes.{kept_bear, new_bear, is_change, total_moved}
use Rattle.unfold_op.proofs.TableLaw.{table_law}

module _ (t : OneTableValue) (ms : List Signed) (after : ℕ) (counted : t.total + ups ms ≡ after + downs ms) (lines all : List TableLine) (put : all ≡ framed (label_for t.shape t.label ms) (nat_lt 0 t.total) (nat_lt 0 after) lines) where
  -- they are those of the table
  pub lines_are : (old new : List Row) → KeepsFacts t old → MovesBag old ms new → lines ≡ lines_between (label_for t.shape t.label ms) (fact_table (facts_in t.shape old)) (fact_table (facts_in t.shape new))
      → all ≡ table_lines (label_for t.shape t.label ms) (facts_in t.shape old) (facts_in t.shape new)
  lines_are old new h moves are =
      let before : t.total ≡ length (facts_in t.shape old) = h.total ∙ sym (facts_length t.shape old) in
      let left : after ≡ length new = omega (arith, counted, total_moved t ms old new h moves) in
      let behind : after ≡ length (facts_in t.shape new) = left ∙ sym (facts_length t.shape new) in
      put ∙ λ i. framed (label_for t.shape t.label ms) (nat_lt 0 (before i)) (nat_lt 0 (behind i)) (are i)

  pub law_holds : t.shape.label ≡ None → CanPrepare t ms
      → ((old new : List Row) → KeepsFacts t old → MovesBag old ms new → lines ≡ lines_between (label_for t.shape t.label ms) (fact_table (facts_in t.shape old)) (fact_table (facts_in t.shape new)))
      → Makes t ms all
  law_holds variable can are = λ old new h moves.
      let law = table_law (label_for t.shape t.label ms) t.shape variable (facts_in t.shape old) (facts_in t.shape new) (kept_bear t ms can.bears old h) (new_bear t ms can.bears old new h moves) in
      rw (lines_are old new h moves (are old new h moves)) (law.fit, sym law.made)

-- what was made ready, once it is stored
pub stands_moved : (t : OneTableValue) (w : Waiting) → IsReadyFor t.shape t.counts t.label t.total w → (counts : FactCounts) (waiting : Option (List Signed))
    → ((n : Nets) (label : Text) (constants : Row) (ms : List (Move Fact)) (old new : List Fact) → IsChange t.counts n label constants ms old new → conflict new ≡ None → IsReady t.counts n w.counts → Stands counts new)
    → (x y : List Row) → KeepsFacts t x → MovesBag x w.of.value y → CanKeep t.shape y → KeepsFacts (record { shape = t.shape; counts = counts; label = w.label; total = w.total; waiting = waiting }) y
stands_moved t w r counts waiting stores x y h moves can = record {
  stands = stores r.nets (label_for t.shape t.label w.of.value) t.shape.constants (fact_moves t.shape w.of.value) (facts_in t.shape x) (facts_in t.shape y) (is_change t w.of.value r.bears x y h moves r.nets can.few r.are_nets) can.clean r.ready;
  total = omega (arith, total_moved t w.of.value x y h moves, r.total_is);
  bear = rw r.label_is (new_bear t w.of.value r.bears x y h moves);
  legal = can.legal;
}

pub same_waits : (o : Option Waiting) (w : Waiting) (ms : List Signed) → o ≡ Some w → option_map (λ (v : Waiting). v.of.value) o ≡ Some ms → ms ≡ w.of.value
same_waits None w ms e f = absurd (cc)
same_waits (Some v) w ms e f = cc

-- what was made ready for these moves
pub is_ready : (shape : Shape) (counts : FactCounts) (label : Text) (total : ℕ) (w v : Waiting) (ms : List Signed) → Some w ≡ Some v → w.of.value ≡ ms → (n : Nets) → AreNets n (fact_moves shape ms) → IsReady counts n w.counts → HasRoom counts w.counts
    → BearsOne shape label total ms → w.label ≡ label_for shape label ms → total + ups ms ≡ w.total + downs ms → IsReadyFor shape counts label total v
is_ready shape counts label total w v ms is e n nets ready room bears l d =
    subst (IsReadyFor shape counts label total) (let same : w ≡ v = cc in same)
    (record {
      nets = n;
      are_nets = rw e nets;
      ready = ready;
      room = room;
      bears = rw e bears;
      label_is = rw e l;
      total_is = rw e d;
    })
