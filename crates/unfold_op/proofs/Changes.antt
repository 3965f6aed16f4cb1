-- A change of what an operator for one table keeps is a change of its counts.
use Rattle.std.proofs.Common.{◌≡◌, ◌<◌, ◌≤◌, ◌+◌, ◌^◌, ℕ, ◌∷◌, [], List, sym, ◌∙◌, subst, length, arith}
use Rattle.ss_text.specs.Texts.{Text, Row}
use Rattle.flow_law.specs.declared.shape.Shape.{Shape}
use Rattle.flow_law.specs.Labelled.{AllBear}
use Rattle.operator_law.specs.declared.delta.Signed.{Signed}
use Rattle.operator_law.specs.Bags.{MovesBag}
use Rattle.unfold_op.specs.declared.facts.Nets.{Nets}
use Rattle.unfold_op.specs.Moves.{AreNets, IsChange}
use Rattle.unfold_op.specs.FactMoves.{facts_in, facts_moved, fact_moves}
use Rattle.unfold_op.specs.OneTables.{OneTableValue, KeepsFacts, BearsOne, CanPrepare, label_for}
use Rattle.unfold_op.specs.TableFields.{ups, downs}
use Rattle.unfold_op.proofs.BagMoves.{facts_move, totals_move, facts_length}
use Rattle.unfold_op.proofs.LabelsBorne.{bear_after}
use Rattle.unfold_op.proofs.LegalColumns.{legal_columns}

-- the moves bear the label of the change
pub moves_bear : (shape : Shape) (kept : Text) (total : ℕ) (ms : List Signed) → BearsOne shape kept total ms → AllBear (label_for shape kept ms) (facts_moved shape ms)
moves_bear shape kept total [] b = tt
moves_bear shape kept total (m ∷ ms) b = subst (λ (l : Text). AllBear l (facts_moved shape (m ∷ ms))) (sym b.bear.0) b.bear

module _ (t : OneTableValue) (ms : List Signed) (b : BearsOne t.shape t.label t.total ms) where
  -- and so do the kept facts
  pub kept_bear : (old : List Row) → KeepsFacts t old → AllBear (label_for t.shape t.label ms) (facts_in t.shape old)
  kept_bear old h = by_moves ms b old h.total h.bear
    where
      by_moves : (ns : List Signed) → BearsOne t.shape t.label t.total ns → (rows : List Row) → t.total ≡ length rows → AllBear t.label (facts_in t.shape rows) → AllBear (label_for t.shape t.label ns) (facts_in t.shape rows)
      by_moves [] c rows total all = all
      by_moves (n ∷ ns) c [] total all = tt
      by_moves (n ∷ ns) c (r ∷ rows) total all = subst (λ (l : Text). AllBear l (facts_in t.shape (r ∷ rows))) (c.same (omega (arith, total)) ∙ sym c.bear.0) all

  module _ (old new : List Row) (h : KeepsFacts t old) (moves : MovesBag old ms new) where
    pub new_bear : AllBear (label_for t.shape t.label ms) (facts_in t.shape new)
    new_bear = bear_after (label_for t.shape t.label ms) (facts_in t.shape old) (fact_moves t.shape ms) (facts_in t.shape new) (facts_move t.shape old new ms moves) (kept_bear old h) (moves_bear t.shape t.label t.total ms b)

    pub is_change : (n : Nets) → length new < 2 ^ 128 → AreNets n (fact_moves t.shape ms) → IsChange t.counts n (label_for t.shape t.label ms) t.shape.constants (fact_moves t.shape ms) (facts_in t.shape old) (facts_in t.shape new)
    is_change n few nets = record {
      stands = h.stands;
      nets = nets;
      moves = facts_move t.shape old new ms moves;
      small = rw (facts_length t.shape new) few;
      bear = new_bear;
      legal = legal_columns t.shape.constants (facts_in t.shape old) h.legal;
    }

-- how many facts there are after the moves, and that they are not too many
module _ (t : OneTableValue) (ms : List Signed) (old new : List Row) (h : KeepsFacts t old) (moves : MovesBag old ms new) where
  pub total_moved : t.total + ups ms ≡ length new + downs ms
  total_moved = rw h.total (totals_move old new ms moves)

  pub few_moved : CanPrepare t ms → length new < 2 ^ 128
  few_moved can = omega (arith, can.few, can.keeps.total, h.total, totals_move can.old can.new ms can.moves, totals_move old new ms moves)

  pub enough : downs ms ≤ t.total + ups ms
  enough = omega (arith, total_moved)

  pub small : length new < 2 ^ 128 → t.total + ups ms < 2 ^ 128 + downs ms
  small few = omega (arith, total_moved, few)

-- the change of the counts, for the label that was found
pub changed_by : (t : OneTableValue) (ms : List Signed) (can : CanPrepare t ms) (label : Text) → label ≡ label_for t.shape t.label ms → (n : Nets) → AreNets n (fact_moves t.shape ms)
    → (old new : List Row) → KeepsFacts t old → MovesBag old ms new → IsChange t.counts n label t.shape.constants (fact_moves t.shape ms) (facts_in t.shape old) (facts_in t.shape new)
changed_by t ms can label e n nets old new h moves =
    rw e (is_change t ms can.bears old new h moves n (few_moved t ms old new h moves can) nets)
