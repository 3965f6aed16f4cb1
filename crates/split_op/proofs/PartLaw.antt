-- What an operator for one table answers are the lines of its label.
use Rattle.std.proofs.Common.{◌≡◌, ◌<◌, ◌+◌, ◌∷◌, [], ℕ, List, Bool, true, false, refl, sym, ◌∙◌, ap, subst, length, append-nil, arith}
use Rattle.std.specs.Prelude.{nat_lt, if◌then◌else◌}
use Rattle.std.proofs.lemmas.Bool.{lt-ltb}
use Rattle.ss_text.specs.Texts.{Text, Row}
use Rattle.flow_law.specs.declared.shape.Shape.{Shape}
use Rattle.flow_law.specs.declared.line.TableLine.{TableLine}
use Rattle.flow_law.specs.declared.line.TableLine.TheVariants.{TableMinus, TablePlus}
use Rattle.flow_law.specs.Facts.{Fact, conflict}
use Rattle.flow_law.specs.FactTables.{fact_table}
use Rattle.flow_law.specs.Labelled.{AllBear}
use Rattle.flow_law.specs.Script.{lines_between, lines_for}
use Rattle.operator_law.specs.declared.delta.Signed.{Signed}
use Rattle.operator_law.specs.Bags.{MovesBag}
use Rattle.unfold_op.specs.FactMoves.{facts_in, facts_moved}
use Rattle.unfold_op.specs.OneTables.{OneTableValue, KeepsFacts, GivesLines, framed, table_lines, label_for}
use Rattle.unfold_op.proofs.BagMoves.{totals_move, facts_length}
use Rattle.split_op.specs.Tables.{Fits}
use Rattle.split_op.specs.Parts.{SameColumns}
use Rattle.split_op.specs.PartLines.{table_if, GivesPart}
use Rattle.split_op.proofs.Columns.{same_facts, same_illegal}

some : {A : Type 0} (x : A) (xs : List A) → nat_lt 0 (length (x ∷ xs)) ≡ true
some x xs = lt-ltb 0 (length (x ∷ xs)) (omega arith)

-- where there are facts in the end, the frame is that of the script
lines_framed : (label : Text) (old new : List Fact) → 0 < length new
    → framed label (nat_lt 0 (length old)) (nat_lt 0 (length new)) (lines_between label (fact_table old) (fact_table new)) ≡ lines_for label (table_if old) (table_if new)
lines_framed label old [] h = absurd (omega arith)
lines_framed label [] (f ∷ fs) h =
    ap (λ (b : Bool). framed label false b (lines_between label (fact_table []) (fact_table (f ∷ fs)))) (some f fs)
    ∙ ap (λ (ls : List TableLine). TablePlus label ∷ ls) (append-nil (lines_between label (fact_table []) (fact_table (f ∷ fs))))
lines_framed label (e ∷ es) (f ∷ fs) h =
    (λ i. framed label (some e es i) (some f fs i) (lines_between label (fact_table (e ∷ es)) (fact_table (f ∷ fs))))
    ∙ append-nil (lines_between label (fact_table (e ∷ es)) (fact_table (f ∷ fs)))

-- rows that are kept bear the label under which they are kept
same_label : (shape : Shape) (label : Text) (t : OneTableValue) (rows : List Row) → AllBear t.label (facts_in t.shape rows) → AllBear label (facts_in shape rows) → 0 < length rows → t.label ≡ label
same_label shape label t [] kept own h = absurd (omega arith)
same_label shape label t (row ∷ rows) kept own h = sym kept.0 ∙ own.0

module _ (shape : Shape) (label : Text) (t : OneTableValue) (columns : SameColumns shape t.shape) (ms : List Signed) (old new : List Row) (h : KeepsFacts t old) (f : Fits shape label old ms new) where
  -- the label that the operator takes is this one
  label_is : 0 < length new → (ns : List Signed) → ns ≡ ms → label_for t.shape t.label ns ≡ label
  label_is left [] e =
      let kept : length old + 0 ≡ length new + 0 = totals_move old new [] (subst (λ (ks : List Signed). MovesBag old ks new) (sym e) f.moves) in
      same_label shape label t old h.bear f.bear (omega (arith, kept, left))
  label_is left (n ∷ ns) e = (subst (λ (ks : List Signed). AllBear label (facts_moved shape ks)) (sym e) f.moved).0

  pub gives_part : 0 < length new → (lines : List TableLine) → GivesLines t ms lines old new → GivesPart shape label old new lines
  gives_part left lines g = record {
    legal = sym (same_illegal shape t.shape columns new) ∙ g.legal;
    clean = ap conflict (sym (same_facts shape t.shape columns new)) ∙ g.clean;
    lines_are = g.lines_are
        ∙ (λ i. table_lines (label_is left ms refl i) (same_facts shape t.shape columns old i) (same_facts shape t.shape columns new i))
        ∙ lines_framed label (facts_in shape old) (facts_in shape new) (subst (λ (n : ℕ). 0 < n) (sym (facts_length shape new)) left);
  }

-- where there are none in the end, the table goes if it was there
pub gives_gone : (shape : Shape) (label : Text) (old new : List Row) (before : ℕ) → before ≡ length old → length new ≡ 0
    → (lines : List TableLine) → lines ≡ (if nat_lt 0 before then TableMinus label ∷ [] else []) → GivesPart shape label old new lines
unfolding conflict
gives_gone shape label old (row ∷ rows) before b none lines e = absurd (omega (arith, none))
gives_gone shape label [] [] before b none lines e = record { legal = refl; clean = refl; lines_are = e ∙ ap (λ (n : ℕ). if nat_lt 0 n then TableMinus label ∷ [] else []) b }
gives_gone shape label (row ∷ rows) [] before b none lines e = record { legal = refl; clean = refl; lines_are = e ∙ ap (λ (n : ℕ). if nat_lt 0 n then TableMinus label ∷ [] else []) b ∙ ap (λ (c : Bool). if c then TableMinus label ∷ [] else []) (some row rows) }
