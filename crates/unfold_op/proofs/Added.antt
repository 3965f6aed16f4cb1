-- One fact more among those that are kept.
use Rattle.std.proofs.Common.{◌≡◌, ◌+◌, ◌∷◌, ◌++◌, [], ℕ, List, Option, Bool, true, false, sym, ◌∙◌, ap, subst, length, arith}
use Rattle.std.specs.Prelude.{nat_lt, if◌then◌else◌}
use Rattle.ss_text.specs.Texts.{Text, Row}
use Rattle.flow_law.specs.declared.shape.Shape.{Shape}
use Rattle.flow_law.specs.Facts.{Fact, conflict}
use Rattle.flow_law.specs.FactRows.{fact_row, fact_in}
use Rattle.flow_law.specs.Labelled.{AllBear}
use Rattle.flow_law.proofs.FactRowLemmas.{fact_read_back}
use Rattle.unfold_op.specs.declared.facts.FactCounts.{FactCounts}
use Rattle.unfold_op.specs.Moves.{CanCount, Stands}
use Rattle.unfold_op.proofs.OneValue.{clean_behind}
use Rattle.operator_law.specs.declared.delta.Signed.{Signed}
use Rattle.unfold_op.specs.FactMoves.{facts_in}
use Rattle.unfold_op.specs.OneTables.{OneTableValue, KeepsFacts, CanAdd, CanKeep}
use Rattle.unfold_op.proofs.BagMoves.{facts_length}
use Rattle.unfold_op.proofs.LegalColumns.{legal_behind}

-- facts that can be kept can be kept without the first, and without the first few
keep_behind : (shape : Shape) (row : Row) (rows : List Row) → CanKeep shape (row ∷ rows) → CanKeep shape rows
keep_behind shape row rows can = record {
  few = omega (arith, can.few);
  legal = legal_behind shape.constants (fact_in shape row) (facts_in shape rows) can.legal;
  clean = clean_behind (fact_in shape row) (facts_in shape rows) can.clean;
}

pub keep_last : (shape : Shape) (before rows : List Row) → CanKeep shape (before ++ rows) → CanKeep shape rows
keep_last shape [] rows can = can
keep_last shape (row ∷ before) rows can = keep_last shape before rows (keep_behind shape row (before ++ rows) can)

module _ (t : OneTableValue) (fact : Fact) (rows : List Row) (h : CanAdd t fact rows) where
  in_row : fact_in t.shape (fact_row fact) ≡ fact
  in_row = fact_read_back t.shape fact h.form

  all_in_rows : facts_in t.shape (fact_row fact ∷ rows) ≡ fact ∷ facts_in t.shape rows
  all_in_rows = ap (λ (f : Fact). f ∷ facts_in t.shape rows) in_row

  pub can_count : CanCount t.counts fact (facts_in t.shape rows)
  can_count = record {
    stands = h.keeps.stands;
    few = rw (facts_length t.shape rows) h.can.few;
    bear = subst (AllBear fact.label) all_in_rows h.bear;
    clean = ap conflict (sym all_in_rows) ∙ h.can.clean;
  }

  -- the label that is kept is that of the fact
  label_is : (label : Text) (rest : List Row) → t.total ≡ length rest → AllBear t.label (facts_in t.shape rest) → AllBear fact.label (facts_in t.shape rest)
      → label ≡ (if nat_lt 0 t.total then t.label else fact.label) → label ≡ fact.label
  label_is label [] total kept own is = is ∙ ap (λ (n : ℕ). if nat_lt 0 n then t.label else fact.label) total
  label_is label (first ∷ rest) total kept own is =
      is ∙ ap (λ (l : Text). if nat_lt 0 t.total then l else fact.label) (sym kept.0 ∙ own.0) ∙ either (nat_lt 0 t.total)
    where
      either : (b : Bool) → (if b then fact.label else fact.label) ≡ fact.label
      either true = λ i. fact.label
      either false = λ i. fact.label

  pub keeps_added : (counts : FactCounts) (label : Text) (waiting : Option (List Signed)) → Stands counts (fact ∷ facts_in t.shape rows) → label ≡ (if nat_lt 0 t.total then t.label else fact.label)
      → KeepsFacts (record { shape = t.shape; counts = counts; label = label; total = t.total + 1; waiting = waiting }) (fact_row fact ∷ rows)
  keeps_added counts label waiting stands is = record {
    stands = subst (Stands counts) (sym all_in_rows) stands;
    total = omega (arith, h.keeps.total);
    bear = subst (λ (l : Text). AllBear l (facts_in t.shape (fact_row fact ∷ rows))) (sym (label_is label rows h.keeps.total h.keeps.bear h.bear.1 is)) h.bear;
    legal = h.can.legal;
  }
