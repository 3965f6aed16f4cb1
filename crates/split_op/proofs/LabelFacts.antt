-- The facts of one label among those of all rows.
use Rattle.std.proofs.Common.{◌≡◌, ◌∷◌, [], List, Bool, true, false, cond, Some, None, refl, sym, ◌∙◌, ap, length, filter, arith}
use Rattle.std.specs.Prelude.{nat_lt, ◌||◌, if◌then◌else◌}
use Rattle.std.specs.List.{list_any}
use Rattle.std.proofs.lemmas.Bool.{lt-ltb}
use Rattle.ss_text.specs.Texts.{Text, Row, text_eq}
use Rattle.flow_law.specs.declared.shape.Shape.{Shape}
use Rattle.flow_law.specs.Facts.{Fact, facts_of}
use Rattle.flow_law.specs.FactRows.{fact_in}
use Rattle.flow_law.specs.FactTables.{fact_table}
use Rattle.unfold_op.specs.FactMoves.{facts_in}
use Rattle.split_op.specs.LabelLines.{table_for}
use Rattle.split_op.proofs.LabelScript.{any_label}
use Rattle.split_op.specs.Labels.{label_in, rows_of}
use Rattle.split_op.specs.PartLines.{table_if}

pub facts_of_rows : (shape : Shape) (label : Text) (rows : List Row) → facts_of label (facts_in shape rows) ≡ facts_in shape (rows_of label rows)
facts_of_rows shape label [] = refl
facts_of_rows shape label (row ∷ rows) = by_test (text_eq label (label_in row)) (facts_of_rows shape label rows)
  where
    by_test : (b : Bool) → facts_of label (facts_in shape rows) ≡ facts_in shape (rows_of label rows)
        → cond b (fact_in shape row ∷ facts_of label (facts_in shape rows)) (facts_of label (facts_in shape rows)) ≡ facts_in shape (cond b (row ∷ rows_of label rows) (rows_of label rows))
    by_test true e = ap (λ (fs : List Fact). fact_in shape row ∷ fs) e
    by_test false e = e

-- whether some row bears the label
pub any_row : (shape : Shape) (label : Text) (rows : List Row) → list_any (λ (f : Fact). text_eq label f.label) (facts_in shape rows) ≡ nat_lt 0 (length (rows_of label rows))
any_row shape label [] = refl
any_row shape label (row ∷ rows) = by_test (text_eq label (label_in row)) (any_row shape label rows)
  where
    by_test : (b : Bool) → list_any (λ (f : Fact). text_eq label f.label) (facts_in shape rows) ≡ nat_lt 0 (length (rows_of label rows))
        → (b || list_any (λ (f : Fact). text_eq label f.label) (facts_in shape rows)) ≡ nat_lt 0 (length (cond b (row ∷ rows_of label rows) (rows_of label rows)))
    by_test true e = sym (lt-ltb 0 (length (row ∷ rows_of label rows)) (omega arith))
    by_test false e = e

-- there is a table of the facts that pass a test where there are some
some_pass : (p : Fact → Bool) (fs : List Fact) → (if list_any p fs then Some (fact_table (filter p fs)) else None) ≡ table_if (filter p fs)
some_pass p [] = refl
some_pass p (f ∷ fs) = by_test (p f) (some_pass p fs)
  where
    by_test : (b : Bool) → (if list_any p fs then Some (fact_table (filter p fs)) else None) ≡ table_if (filter p fs)
        → (if b || list_any p fs then Some (fact_table (cond b (f ∷ filter p fs) (filter p fs))) else None) ≡ table_if (cond b (f ∷ filter p fs) (filter p fs))
    by_test true e = refl
    by_test false e = e

-- the table of a label, where none is constant
pub table_of_label : (shape : Shape) → shape.label ≡ None → (fs : List Fact) (label : Text) → table_for shape fs label ≡ table_if (facts_of label fs)
table_of_label shape none fs label =
    rw (none, any_label label fs) (some_pass (λ (f : Fact). text_eq label f.label) fs)

pub table_of_rows : (shape : Shape) → shape.label ≡ None → (rows : List Row) (label : Text) → table_for shape (facts_in shape rows) label ≡ table_if (facts_in shape (rows_of label rows))
table_of_rows shape none rows label = table_of_label shape none (facts_in shape rows) label ∙ ap table_if (facts_of_rows shape label rows)
