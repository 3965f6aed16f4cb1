-- Facts of rows where the columns are the same.
use Rattle.std.proofs.Common.{◌≡◌, ◌+◌, ◌∷◌, [], ℕ, List, Option, Some, None, refl, sym, ◌∙◌, ap, subst, length}
use Rattle.std.specs.List.{All}
use Rattle.std.specs.Prelude.{is_some}
use Rattle.ss_text.specs.Texts.{Text, Row}
use Rattle.flow_law.specs.declared.shape.Shape.{Shape}
use Rattle.flow_law.specs.declared.refused.EvalFault.{EvalFault}
use Rattle.flow_law.specs.Facts.{Fact, illegal_column, conflict}
use Rattle.flow_law.specs.FactRows.{fact_in, fact_width, row_width, cell_behind, IsFactOf}
use Rattle.flow_law.specs.Labelled.{AllBear}
use Rattle.operator_law.specs.declared.delta.Signed.{Signed}
use Rattle.unfold_op.specs.Stopped.{StopsFor}
use Rattle.unfold_op.specs.FactMoves.{facts_in, facts_moved}
use Rattle.unfold_op.specs.OneTables.{CanKeep}
use Rattle.split_op.specs.Tables.{Fits}
use Rattle.split_op.specs.Parts.{SameColumns}

same_cell : (n : ℕ) (row : Row) (p q : Option ℕ) → is_some q ≡ is_some p → cell_behind n row q ≡ cell_behind n row p
same_cell n row None None e = refl
same_cell n row None (Some k) e = absurd (cc)
same_cell n row (Some j) None e = absurd (cc)
same_cell n row (Some j) (Some k) e = refl

same_row_width : (n : ℕ) (p q : Option ℕ) → is_some q ≡ is_some p → row_width n q ≡ row_width n p
same_row_width n None None e = refl
same_row_width n None (Some k) e = absurd (cc)
same_row_width n (Some j) None e = absurd (cc)
same_row_width n (Some j) (Some k) e = refl

module _ (a b : Shape) (s : SameColumns a b) where
  pub same_fact : (row : Row) → fact_in b row ≡ fact_in a row
  same_fact row =
      ap (λ (constants : Row). fact_in (record { label = b.label; constants = constants; spot = b.spot }) row) s.constants
      ∙ ap (λ (c : Option (Text × Text)). record (fact_in a row) { cell = c }) (same_cell (length a.constants + 1) row a.spot b.spot s.variable)

  pub same_facts : (rows : List Row) → facts_in b rows ≡ facts_in a rows
  same_facts [] = refl
  same_facts (row ∷ rows) = λ i. same_fact row i ∷ same_facts rows i

  pub same_moved : (ms : List Signed) → facts_moved b ms ≡ facts_moved a ms
  same_moved [] = refl
  same_moved (m ∷ ms) = λ i. same_fact m.row i ∷ same_moved ms i

  pub same_width : fact_width b ≡ fact_width a
  same_width = ap (λ (constants : Row). row_width (length constants) b.spot) s.constants ∙ same_row_width (length a.constants) a.spot b.spot s.variable

  pub same_form : (f : Fact) → IsFactOf a f → IsFactOf b f
  same_form f h = record { key = h.key ∙ ap length (sym s.constants); cell = h.cell ∙ sym s.variable }

  pub same_illegal : (rows : List Row) → illegal_column b.constants (facts_in b rows) ≡ illegal_column a.constants (facts_in a rows)
  same_illegal rows = λ i. illegal_column (s.constants i) (same_facts rows i)

  pub fits_columns : (label : Text) (old new : List Row) (ms : List Signed) → Fits a label old ms new → Fits b label old ms new
  fits_columns label old new ms f = record {
    bear = subst (AllBear label) (sym (same_facts old)) f.bear;
    moved = subst (AllBear label) (sym (same_moved ms)) f.moved;
    wide = subst (λ (n : ℕ). All (λ (m : Signed). length m.row ≡ n) ms) (sym same_width) f.wide;
    moves = f.moves;
    few = f.few;
  }

  pub can_keep_columns : (rows : List Row) → CanKeep a rows → CanKeep b rows
  can_keep_columns rows c = record {
    few = c.few;
    legal = same_illegal rows ∙ c.legal;
    clean = ap conflict (same_facts rows) ∙ c.clean;
  }

  pub stops_columns : (rows : List Row) (stop : EvalFault) → StopsFor (illegal_column b.constants (facts_in b rows)) (conflict (facts_in b rows)) stop → StopsFor (illegal_column a.constants (facts_in a rows)) (conflict (facts_in a rows)) stop
  stops_columns rows stop h = rw (← same_illegal rows, ← same_facts rows) h
