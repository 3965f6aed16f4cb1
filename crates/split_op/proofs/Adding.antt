-- A fact that comes to those that are kept.
use Rattle.std.proofs.Common.{◌≡◌, ◌∷◌, [], List, Bool, true, false, cond, Option, Some, None, refl, sym, ◌∙◌, ap, subst, arith}
use Rattle.ss_text.specs.Texts.{Text, Row, text_eq}
use Rattle.ss_text.proofs.KeyLemmas.{text_order, equal_is, equal_itself}
use Rattle.ss_text.proofs.PairLemmas.{turned}
use Rattle.flow_law.specs.declared.shape.Shape.{Shape}
use Rattle.flow_law.specs.Facts.{Fact}
use Rattle.flow_law.specs.FactRows.{fact_row}
use Rattle.flow_law.specs.Labelled.{AllBear}
use Rattle.unfold_op.specs.OneTables.{OneTableValue, KeepsFacts, CanAdd, CanKeep}
use Rattle.split_op.specs.Labels.{rows_of}
use Rattle.split_op.specs.Parts.{SameColumns, KeepsPart, KeepsParts}
use Rattle.split_op.specs.Splits.{SplitValue, part_of}
use Rattle.split_op.specs.Added.{CanAddPart, CanAddSplit}
use Rattle.split_op.proofs.Columns.{same_facts, same_form, can_keep_columns}
use Rattle.split_op.proofs.SplitMoves.{bear_own, can_keep_label}

module _ {I : Type 0} (table : I → OneTableValue) (shape : Shape) (fact : Fact) where
  -- what an operator for one table needs of a fact of its label
  pub can_add_one : (t : I) (rows : List Row) → CanAddPart table shape (Some t) fact rows → CanAdd (table t) fact rows
  can_add_one t rows h =
      let columns = h.keeps.0.columns in
      record {
        keeps = h.keeps.0.keeps;
        form = same_form shape (table t).shape columns fact h.form;
        bear = (refl, subst (AllBear fact.label) (sym (same_facts shape (table t).shape columns rows)) h.bear);
        can = can_keep_columns shape (table t).shape columns (fact_row fact ∷ rows) h.can;
      }

  pub kept_one : (t u : I) (rows : List Row) → CanAddPart table shape (Some t) fact rows → (table u).shape ≡ (table t).shape → KeepsFacts (table u) (fact_row fact ∷ rows) → KeepsPart table shape (Some u) (fact_row fact ∷ rows)
  kept_one t u rows h same keeps = (record { columns = subst (SameColumns shape) (sym same) h.keeps.0.columns; keeps = keeps }, omega arith)

  -- one that keeps no facts
  pub can_add_fresh : (t : I) → SameColumns shape (table t).shape → KeepsFacts (table t) [] → CanAddPart table shape None fact [] → CanAdd (table t) fact []
  can_add_fresh t columns empty h = record {
    keeps = empty;
    form = same_form shape (table t).shape columns fact h.form;
    bear = (refl, tt);
    can = can_keep_columns shape (table t).shape columns (fact_row fact ∷ []) h.can;
  }

  pub kept_fresh : (t u : I) → SameColumns shape (table t).shape → (table u).shape ≡ (table t).shape → KeepsFacts (table u) (fact_row fact ∷ []) → KeepsPart table shape (Some u) (fact_row fact ∷ [])
  kept_fresh t u columns same keeps = (record { columns = subst (SameColumns shape) (sym same) columns; keeps = keeps }, omega arith)

  -- a label without an operator has no facts
  pub none_before : (o : Option I) (rows : List Row) → o ≡ None → CanAddPart table shape o fact rows → CanAddPart table shape None fact []
  none_before o rows none h =
      let empty : rows ≡ [] = subst (λ (p : Option I). KeepsPart table shape p rows) none h.keeps in
      record { keeps = refl; form = h.form; bear = tt; can = subst (λ (rs : List Row). CanKeep shape (fact_row fact ∷ rs)) empty h.can }

  pub kept_first : (o p : Option I) (t : I) (rows : List Row) → o ≡ None → p ≡ Some t → CanAddPart table shape o fact rows → KeepsPart table shape (Some t) (fact_row fact ∷ []) → KeepsPart table shape p (fact_row fact ∷ rows)
  kept_first o p t rows none is h keeps =
      let empty : rows ≡ [] = subst (λ (q : Option I). KeepsPart table shape q rows) none h.keeps in
      subst (λ (q : Option I). KeepsPart table shape q (fact_row fact ∷ rows)) (sym is) (subst (λ (rs : List Row). KeepsPart table shape (Some t) (fact_row fact ∷ rs)) (sym empty) keeps)

-- a fact among those of all labels
module _ {I : Type 0} (table : I → OneTableValue) (s : SplitValue I) (fact : Fact) (rows : List Row) (h : CanAddSplit table s fact rows) where
  own_rows : (q : Text) (b : Bool) → text_eq q fact.label ≡ b → rows_of q (fact_row fact ∷ rows) ≡ cond b (fact_row fact ∷ rows_of q rows) (rows_of q rows)
  own_rows q b e = ap (λ (c : Bool). cond c (fact_row fact ∷ rows_of q rows) (rows_of q rows)) e

  pub can_add_own : CanAddPart table s.shape (part_of s.parts fact.label) fact (rows_of fact.label rows)
  can_add_own = record {
    keeps = h.keeps.parts fact.label;
    form = h.form;
    bear = bear_own s.shape fact.label rows;
    can = subst (CanKeep s.shape) (own_rows fact.label true (equal_itself text_order fact.label)) (can_keep_label s.shape (fact_row fact ∷ rows) h.can fact.label);
  }

  pub kept_all : (now : Text → Option I) → KeepsPart table s.shape (now fact.label) (fact_row fact ∷ rows_of fact.label rows) → ((q : Text) → text_eq fact.label q ≡ false → now q ≡ part_of s.parts q) → KeepsParts table s.shape now (fact_row fact ∷ rows)
  kept_all now own others q = by_test (text_eq q fact.label) refl
    where
      by_test : (b : Bool) → text_eq q fact.label ≡ b → KeepsPart table s.shape (now q) (cond b (fact_row fact ∷ rows_of q rows) (rows_of q rows))
      by_test true e = subst (λ (l : Text). KeepsPart table s.shape (now l) (fact_row fact ∷ rows_of l rows)) (sym (equal_is text_order q fact.label e)) own
      by_test false e = subst (λ (o : Option I). KeepsPart table s.shape o (rows_of q rows)) (sym (others q (turned text_order fact.label q ∙ e))) (h.keeps.parts q)
