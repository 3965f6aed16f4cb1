-- One more label is judged.
use Rattle.std.proofs.Common.{◌≡◌, ◌∷◌, ◌++◌, [], List, Option, Some, None, refl, sym, ◌∙◌, ap, append-nil, append_assoc}
use Rattle.std.specs.Prelude.{flat_map}
use Rattle.std.specs.Option.{option_or}
use Rattle.ss_text.specs.Texts.{Text, Row}
use Rattle.flow_law.specs.declared.shape.Shape.{Shape}
use Rattle.flow_law.specs.declared.line.TableLine.{TableLine}
use Rattle.flow_law.specs.declared.refused.Clash.{Clash}
use Rattle.flow_law.specs.declared.refused.IllegalLabel.{IllegalLabel}
use Rattle.flow_law.specs.declared.refused.EvalFault.{EvalFault}
use Rattle.flow_law.specs.declared.refused.EvalFault.TheVariants as eval
use Rattle.unfold_op.specs.Stopped.{StopsFor}
use Rattle.flow_law.specs.Facts.{Fact, facts_of, illegal_column, conflict}
use Rattle.flow_law.specs.Script.{lines_for}
use Rattle.unfold_op.specs.FactMoves.{facts_in}
use Rattle.split_op.specs.LabelLines.{label_lines, first_conflict, first_illegal_column}
use Rattle.split_op.specs.declared.judged.Judged.{Judged}
use Rattle.split_op.specs.Labels.{rows_of}
use Rattle.split_op.specs.PartLines.{GivesPart, StopsAtOnce}
use Rattle.split_op.specs.Judged.{IsJudged}
use Rattle.split_op.proofs.LabelFacts.{facts_of_rows, table_of_rows}

or_more : {A : Type 0} (a b c : Option A) → option_or a (option_or b c) ≡ option_or (option_or a b) c
or_more None b c = refl
or_more (Some x) b c = refl

pub column_of_more : (constants : Row) (fs : List Fact) (ls ks : List Text) → first_illegal_column constants fs (ls ++ ks) ≡ option_or (first_illegal_column constants fs ls) (first_illegal_column constants fs ks)
column_of_more constants fs [] ks = refl
column_of_more constants fs (l ∷ ls) ks =
    ap (option_or (illegal_column constants (facts_of l fs))) (column_of_more constants fs ls ks)
    ∙ or_more (illegal_column constants (facts_of l fs)) (first_illegal_column constants fs ls) (first_illegal_column constants fs ks)

conflict_of_more : (fs : List Fact) (ls ks : List Text) → first_conflict fs (ls ++ ks) ≡ option_or (first_conflict fs ls) (first_conflict fs ks)
conflict_of_more fs [] ks = refl
conflict_of_more fs (l ∷ ls) ks =
    ap (option_or (conflict (facts_of l fs))) (conflict_of_more fs ls ks)
    ∙ or_more (conflict (facts_of l fs)) (first_conflict fs ls) (first_conflict fs ks)

lines_of_more : (f : Text → List TableLine) (ls : List Text) (l : Text) → flat_map f (ls ++ l ∷ []) ≡ flat_map f ls ++ f l
lines_of_more f [] l = append-nil (f l)
lines_of_more f (k ∷ ls) l = ap (λ (ts : List TableLine). f k ++ ts) (lines_of_more f ls l) ∙ sym (append_assoc (f k) (flat_map f ls) (f l))

-- an illegal column of one label is the first where those before it have none
pub stops_there : (constants : Row) (fs : List Fact) (ls : List Text) (l : Text) (ks : List Text) (i : IllegalLabel)
    → first_illegal_column constants fs ls ≡ None → illegal_column constants (facts_of l fs) ≡ Some i → first_illegal_column constants fs (ls ++ l ∷ ks) ≡ Some i
stops_there constants fs ls l ks i none here = column_of_more constants fs ls (l ∷ ks) ∙ rw (none, here) refl

module _ (shape : Shape) (variable : shape.label ≡ None) (labels : List Text) (label : Text) (old new : List Row) (j k : Judged) (h : IsJudged shape labels (facts_in shape old) (facts_in shape new) j) where
  legal_too : illegal_column shape.constants (facts_in shape (rows_of label new)) ≡ None → first_illegal_column shape.constants (facts_in shape new) (labels ++ label ∷ []) ≡ None
  legal_too own = column_of_more shape.constants (facts_in shape new) labels (label ∷ []) ∙ rw (h.legal, facts_of_rows shape label new, own) refl

  or_none : (p : Option Clash) → option_or p None ≡ p
  or_none None = refl
  or_none (Some c) = refl

  clash_too : (o : Option Clash) → conflict (facts_in shape (rows_of label new)) ≡ o → first_conflict (facts_in shape new) (labels ++ label ∷ []) ≡ option_or j.clash o
  clash_too o own = conflict_of_more (facts_in shape new) labels (label ∷ []) ∙ rw (h.clash_is, facts_of_rows shape label new, own) (ap (option_or j.clash) (or_none o))

  pub judged_lines : (more : List TableLine) → GivesPart shape label (rows_of label old) (rows_of label new) more → k.lines.items ≡ j.lines.items ++ more → k.clash ≡ j.clash
      → IsJudged shape (labels ++ label ∷ []) (facts_in shape old) (facts_in shape new) k
  judged_lines more g lines same = record {
    legal = legal_too g.legal;
    clash_is = clash_too None g.clean ∙ or_none j.clash ∙ sym same;
    lines_are = λ none.
        lines
        ∙ (λ i. h.lines_are (sym same ∙ none) i ++ g.lines_are i)
        ∙ (λ i. flat_map (label_lines shape (facts_in shape old) (facts_in shape new)) labels ++ lines_for label (sym (table_of_rows shape variable old label) i) (sym (table_of_rows shape variable new label) i))
        ∙ sym (lines_of_more (label_lines shape (facts_in shape old) (facts_in shape new)) labels label);
  }

  pub judged_clash : (c : Clash) → illegal_column shape.constants (facts_in shape (rows_of label new)) ≡ None → conflict (facts_in shape (rows_of label new)) ≡ Some c → k.clash ≡ option_or j.clash (Some c)
      → IsJudged shape (labels ++ label ∷ []) (facts_in shape old) (facts_in shape new) k
  judged_clash c own here now = record {
    legal = legal_too own;
    clash_is = clash_too (Some c) here ∙ sym now;
    lines_are = λ none. absurd (some_is j.clash (sym now ∙ none));
  }
    where
      some_is : (o : Option Clash) → option_or o (Some c) ≡ None → ⊥
      some_is None e = cc
      some_is (Some d) e = cc

-- an answer that stops at once stops the whole
pub stops_all : (shape : Shape) (new : List Row) (labels ls : List Text) (l : Text) (ks : List Text) → labels ≡ ls ++ l ∷ ks → first_illegal_column shape.constants (facts_in shape new) ls ≡ None
    → (s : EvalFault) → StopsAtOnce shape (facts_in shape (rows_of l new)) s → StopsFor (first_illegal_column shape.constants (facts_in shape new) labels) (first_conflict (facts_in shape new) labels) s
stops_all shape new labels ls l ks e none (eval.Illegal i) h = ap (first_illegal_column shape.constants (facts_in shape new)) e ∙ stops_there shape.constants (facts_in shape new) ls l ks i none (ap (illegal_column shape.constants) (facts_of_rows shape l new) ∙ h)
stops_all shape new labels ls l ks e none (eval.Conflict c) h = absurd h
stops_all shape new labels ls l ks e none eval.NoMemory h = tt

pub none_judged : (shape : Shape) (old new : List Fact) (j : Judged) → j.lines.items ≡ [] → j.clash ≡ None → IsJudged shape [] old new j
none_judged shape old new j lines clash = record { legal = refl; clash_is = sym clash; lines_are = λ none. lines }
