-- What a change of all facts is to each label.
use Rattle.std.proofs.Common.{◌≡◌, ◌<◌, ◌≤◌, ◌+◌, ◌^◌, ◌∷◌, [], ℕ, List, Bool, true, false, cond, Option, Some, None, refl, sym, ◌∙◌, ap, length, map, filter, arith, ◌⊎◌}
use Rattle.std.specs.List.{AllByRecursion}
use Rattle.std.specs.Option.{option_or}
use Rattle.std.proofs.lemmas.List.Elements.{All-filter}
use Rattle.std.specs.Prelude.{flat_map}
use Rattle.ss_text.specs.Texts.{Text, Row, text_eq, text_cmp}
use Rattle.ss_text.specs.Ascending.{ascending}
use Rattle.ss_text.proofs.KeyLemmas.{text_order, equal_is}
use Rattle.flow_law.specs.declared.shape.Shape.{Shape}
use Rattle.flow_law.specs.declared.line.TableLine.{TableLine}
use Rattle.flow_law.specs.declared.refused.IllegalLabel.{IllegalLabel}
use Rattle.flow_law.specs.declared.refused.EvalFault.{EvalFault}
use Rattle.flow_law.specs.declared.refused.EvalFault.TheVariants as eval
use Rattle.flow_law.specs.Facts.{Fact, illegal, illegal_table, illegal_column, conflict, refusal_by}
use Rattle.flow_law.specs.FactRows.{fact_width}
use Rattle.flow_law.specs.Labelled.{AllBear}
use Rattle.flow_law.specs.Faults.{IsFaultOf}
use Rattle.operator_law.specs.declared.delta.Signed.{Signed}
use Rattle.operator_law.specs.Bags.{MovesBag, weigh}
use Rattle.operator_law.proofs.SignedRows.{moves_filtered}
use Rattle.unfold_op.specs.Stopped.{StopsFor}
use Rattle.unfold_op.specs.Touched.{SameBeyond}
use Rattle.unfold_op.specs.FactMoves.{facts_in, facts_moved}
use Rattle.unfold_op.specs.OneTables.{OneTableValue, CanKeep}
use Rattle.split_op.specs.LabelLines.{label_lines, labels_named, first_conflict, first_illegal_column, first_illegal_table}
use Rattle.split_op.proofs.LabelScript.{script_touched}
use Rattle.split_op.proofs.LabelConflict.{conflict_of_named, clean_own}
use Rattle.split_op.proofs.LabelIllegal.{column_of_named, table_of_named, legal_own}
use Rattle.split_op.specs.declared.groups.Group.{Group}
use Rattle.split_op.specs.Groups.{group_label, grouped}
use Rattle.split_op.specs.Labels.{label_in, rows_of, moves_of, labels_moved}
use Rattle.split_op.specs.Tables.{Fits, ScriptLines}
use Rattle.split_op.specs.Parts.{FitsPart, FitsParts}
use Rattle.split_op.specs.Judged.{GivesParts}
use Rattle.split_op.specs.Splits.{AreWide, MovesAll, CanKeepSplit, IsSplitBound}
use Rattle.split_op.proofs.Grouped.{groups_labels}
use Rattle.split_op.proofs.LabelFacts.{facts_of_rows}
use Rattle.split_op.proofs.WholeTables.{beyond, none_illegal, stop_is}

pub fewer : (p : Row → Bool) (rows : List Row) → length (filter p rows) ≤ length rows
fewer p [] = omega arith
fewer p (row ∷ rows) = by_test (p row) (fewer p rows)
  where
    by_test : (b : Bool) → length (filter p rows) ≤ length rows → length (cond b (row ∷ filter p rows) (filter p rows)) ≤ length (row ∷ rows)
    by_test true h = omega (arith, h)
    by_test false h = omega (arith, h)

module _ (shape : Shape) (label : Text) where
  pub bear_own : (rows : List Row) → AllBear label (facts_in shape (rows_of label rows))
  bear_own [] = tt
  bear_own (row ∷ rows) = by_test (text_eq label (label_in row)) refl (bear_own rows)
    where
      by_test : (b : Bool) → text_eq label (label_in row) ≡ b → AllBear label (facts_in shape (rows_of label rows)) → AllBear label (facts_in shape (cond b (row ∷ rows_of label rows) (rows_of label rows)))
      by_test true e rest = (sym (equal_is text_order label (label_in row) e), rest)
      by_test false e rest = rest

  moved_own : (ms : List Signed) → AllBear label (facts_moved shape (moves_of label ms))
  moved_own [] = tt
  moved_own (m ∷ ms) = by_test (text_eq label (label_in m.row)) refl (moved_own ms)
    where
      by_test : (b : Bool) → text_eq label (label_in m.row) ≡ b → AllBear label (facts_moved shape (moves_of label ms)) → AllBear label (facts_moved shape (cond b (m ∷ moves_of label ms) (moves_of label ms)))
      by_test true e rest = (sym (equal_is text_order label (label_in m.row) e), rest)
      by_test false e rest = rest

  pub fits_label : (ms : List Signed) (old new : List Row) → AreWide shape ms → MovesBag old ms new → length (rows_of label new) < 2 ^ 128 → Fits shape label (rows_of label old) (moves_of label ms) (rows_of label new)
  fits_label ms old new wide moves few = record {
    bear = bear_own old;
    moved = moved_own ms;
    wide = All-filter (λ (m : Signed). text_eq label (label_in m.row)) (λ (m : Signed). length m.row ≡ fact_width shape) ms wide;
    moves = moves_filtered (λ (row : Row). text_eq label (label_in row)) ms old new moves;
    few = few;
  }

none_either : {A : Type 0} (a b : Option A) → option_or a b ≡ None → (a ≡ None) × (b ≡ None)
none_either None b e = (refl, e)
none_either (Some x) b e = absurd (cc)

pub legal_both : (shape : Shape) (fs : List Fact) → illegal shape fs ≡ None → (illegal_table fs ≡ None) × (illegal_column shape.constants fs ≡ None)
unfolding illegal
legal_both shape fs e = none_either (illegal_table fs) (illegal_column shape.constants fs) e

-- the facts of a label can be kept where all can
pub can_keep_label : (shape : Shape) (rows : List Row) → CanKeepSplit shape rows → (label : Text) → CanKeep shape (rows_of label rows)
can_keep_label shape rows can label = record {
  few = omega (arith, can.few, fewer (λ (row : Row). text_eq label (label_in row)) rows);
  legal = ap (illegal_column shape.constants) (sym (facts_of_rows shape label rows)) ∙ legal_own shape.constants (facts_in shape rows) (legal_both shape (facts_in shape rows) can.legal).1 label;
  clean = ap conflict (sym (facts_of_rows shape label rows)) ∙ clean_own (facts_in shape rows) can.clean label;
}

pub named_are : (shape : Shape) (ms : List Signed) → labels_named (facts_moved shape ms) ≡ labels_moved ms
named_are shape ms = ap (ascending text_cmp) (same ms)
  where
    same : (ns : List Signed) → map (λ (f : Fact). f.label) (facts_moved shape ns) ≡ map (λ (m : Signed). label_in m.row) ns
    same [] = refl
    same (n ∷ ns) = ap (λ (ls : List Text). label_in n.row ∷ ls) (same ns)

-- an illegal table is the cause
pub table_stops : (shape : Shape) (fs : List Fact) (l : IllegalLabel) → illegal_table fs ≡ Some l → IsFaultOf shape fs (eval.Illegal l)
unfolding refusal_by illegal
table_stops shape fs l e = rw e refl

module _ {I : Type 0} (table : I → OneTableValue) (shape : Shape) (pattern : I) (at : Text → Option I) (ms : List Signed) (old new : List Row) (h : MovesAll table shape pattern at ms old new) where
  pub fits_parts : FitsParts table shape pattern at (grouped ms (labels_moved ms)) old new
  fits_parts = record { label = h.label; columns = h.columns; fits = each (labels_moved ms) }
    where
      each : (ls : List Text) → AllByRecursion (λ (g : Group). FitsPart table shape (at g.label) g (rows_of g.label old) (rows_of g.label new)) (grouped ms ls)
      each [] = tt
      each (l ∷ ls) = (record { keeps = h.keeps.parts l; fits = fits_label shape l ms old new h.wide h.moves (h.few l) }, each ls)

  abbrev before : List Fact
  before = facts_in shape old

  abbrev after : List Fact
  after = facts_in shape new

  abbrev named : List Fact
  named = facts_moved shape ms

  abbrev labels : List Text
  labels = map group_label (grouped ms (labels_moved ms))

  same_beyond : SameBeyond named before after
  same_beyond = beyond shape old new ms h.moves

  labels_are : labels_named named ≡ labels
  labels_are = named_are shape ms ∙ sym (groups_labels ms (labels_moved ms))

  table_is : illegal_table after ≡ first_illegal_table after labels
  table_is = table_of_named named before after same_beyond (legal_both shape before h.keeps.legal).0 ∙ ap (first_illegal_table after) labels_are

  column_is : illegal_column shape.constants after ≡ first_illegal_column shape.constants after labels
  column_is = column_of_named shape.constants named before after same_beyond (legal_both shape before h.keeps.legal).1 ∙ ap (first_illegal_column shape.constants after) labels_are

  conflict_is : conflict after ≡ first_conflict after labels
  conflict_is = conflict_of_named named before after same_beyond h.keeps.clean ∙ ap (first_conflict after) labels_are

  pub gives_all : (lines : List TableLine) → None ≡ first_illegal_table after labels → GivesParts shape labels before after lines → ScriptLines shape lines before after
  gives_all lines none g = record {
    legal = none_illegal shape after (table_is ∙ sym none) (column_is ∙ g.legal);
    clean = conflict_is ∙ g.clean;
    lines_are = g.lines_are ∙ ap (flat_map (label_lines shape before after)) (sym labels_are) ∙ sym (script_touched shape named before after same_beyond);
  }

  pub stops_with : (s : EvalFault) → None ≡ first_illegal_table after labels → StopsFor (first_illegal_column shape.constants after labels) (first_conflict after labels) s → IsFaultOf shape after s
  stops_with s none stops = stop_is shape after (table_is ∙ sym none) s (rw (column_is, conflict_is) stops)

  pub stops_with_table : (l : IllegalLabel) → Some l ≡ first_illegal_table after labels → IsFaultOf shape after (eval.Illegal l)
  stops_with_table l found = table_stops shape after l (table_is ∙ sym found)

-- the bound of all is that of the groups
module _ {I : Type 0} (is_bound : I → List Signed → ℕ → Type 0) (alike : I → I → Type 0) (pattern : I) (at : Text → Option I) (ms : List Signed) (n : ℕ) (h : IsSplitBound is_bound alike pattern at ms n) where
  pub each_bound : (ls : List Text) → AllByRecursion (λ (g : Group). (t : I) → (at g.label ≡ Some t) ⊎ alike pattern t → is_bound t g.moves (h.steps g.label)) (grouped ms ls)
  each_bound [] = tt
  each_bound (l ∷ ls) = (λ t o. h.each l t o, each_bound ls)

  pub groups_weigh : (ls : List Text) → weigh (λ (g : Group). h.steps g.label) (grouped ms ls) ≡ weigh h.steps ls
  groups_weigh [] = refl
  groups_weigh (l ∷ ls) = ap (λ (k : ℕ). h.steps l + k) (groups_weigh ls)
