-- The tables of all labels, by the form of their view.
use Rattle.std.proofs.Common.{◌≡◌, ◌≤◌, ◌∷◌, List, Option, sym, ◌∙◌, subst, arith}
use Rattle.ss_text.specs.Texts.{Text, Row}
use Rattle.flow_law.specs.declared.shape.Shape.{Shape}
use Rattle.flow_law.specs.declared.line.TableLine.{TableLine}
use Rattle.flow_law.specs.declared.refused.EvalFault.{EvalFault}
use Rattle.flow_law.specs.Facts.{Fact}
use Rattle.flow_law.specs.FactRows.{fact_row, IsFactOf}
use Rattle.flow_law.specs.Faults.{IsFaultOf}
use Rattle.operator_law.specs.declared.delta.Signed.{Signed}
use Rattle.operator_law.specs.Bags.{weigh}
use Rattle.operator_law.proofs.Weights.{weigh-none}
use Rattle.unfold_op.specs.FactMoves.{facts_in}
use Rattle.unfold_op.specs.OneTables.{OneTableValue}
use Rattle.split_op.specs.Tables.{ScriptLines}
use Rattle.split_op.specs.Added.{CanAddSplit}
use Rattle.split_op.specs.Splits.{SplitValue, KeepsSplit, CanKeepSplit, AreWide, CanPrepareSplit}
use Rattle.view_engine.specs.Forms.{seen, KeepsEach, MovesForm, CanKeepTables}

-- no steps for each label are none together
pub no_steps : (labels : List Text) → weigh (λ (label : Text). 0) labels ≤ 0
no_steps labels = omega (arith, weigh-none labels)

module _ (shape : Shape) (s : SplitValue OneTableValue) (old : List Row) (h : KeepsEach shape s old) where
  pub script_each : (new : List Row) (lines : List TableLine) → ScriptLines s.shape lines (facts_in s.shape old) (facts_in s.shape new) → ScriptLines shape lines (facts_in shape old) (facts_in shape new)
  script_each new lines l = subst (λ (f : Shape). ScriptLines f lines (facts_in f old) (facts_in f new)) h.shape_is l

  pub stop_each : (new : List Row) (e : EvalFault) → IsFaultOf s.shape (facts_in s.shape new) e → IsFaultOf shape (facts_in shape new) e
  stop_each new e i = subst (λ (f : Shape). IsFaultOf f (facts_in f new) e) h.shape_is i

  pub wide_each : (ms : List Signed) (new : List Row) → MovesForm shape ms old new → AreWide s.shape ms
  wide_each ms new m = subst (λ (f : Shape). AreWide f ms) (sym h.shape_is) m.wide

  pub can_prepare_each : (ms : List Signed) (new : List Row) → MovesForm shape ms old new → CanPrepareSplit seen s ms
  can_prepare_each ms new m = record { old = old; new = new; keeps = h.keeps; wide = wide_each ms new m; moves = m.moves; few = m.few }

  pub can_keep_each : (new : List Row) → CanKeepTables shape new → CanKeepSplit s.shape new
  can_keep_each new can = subst (λ (f : Shape). CanKeepSplit f new) (sym h.shape_is) (record { few = can.few; legal = can.legal; clean = can.clean })

  pub keeps_each : (t : SplitValue OneTableValue) → s.shape ≡ t.shape → (new : List Row) → KeepsSplit seen t new → KeepsEach shape t new
  keeps_each t f new k = record { shape_is = sym f ∙ h.shape_is; keeps = k }

  -- a fact that comes, by its parts
  module _ (f : Fact) (label : Text) (key : Row) (cell : Option (Text × Text)) (label_is : label ≡ f.label) (key_is : key ≡ f.key) (cell_is : cell ≡ f.cell) where
    abbrev own : Fact
    own = record { label = label; key = key; cell = cell }

    own_is : f ≡ own
    own_is = λ i. record { label = sym label_is i; key = sym key_is i; cell = sym cell_is i }

    pub can_add_each : IsFactOf shape f → CanKeepTables shape (fact_row f ∷ old) → CanAddSplit seen s own old
    can_add_each form can = record {
      keeps = h.keeps;
      form = subst (IsFactOf s.shape) own_is (subst (λ (v : Shape). IsFactOf v f) (sym h.shape_is) form);
      can = subst (λ (g : Fact). CanKeepSplit s.shape (fact_row g ∷ old)) own_is (can_keep_each (fact_row f ∷ old) can);
    }

    pub kept_each : (t : SplitValue OneTableValue) → t.shape ≡ s.shape → KeepsSplit seen t (fact_row own ∷ old) → KeepsEach shape t (fact_row f ∷ old)
    kept_each t e k = keeps_each t (sym e) (fact_row f ∷ old) (subst (λ (g : Fact). KeepsSplit seen t (fact_row g ∷ old)) (sym own_is) k)
