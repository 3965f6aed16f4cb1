-- What is kept for all labels after a change.
use Rattle.std.proofs.Common.{◌≡◌, ◌<◌, ◌^◌, ◌∷◌, [], List, Bool, true, false, cond, Option, Some, None, refl, sym, ◌∙◌, ap, subst, length, map, arith}
use Rattle.std.specs.Prelude.{◌||◌, count_by}
use Rattle.std.specs.List.{AllByRecursion, list_any}
use Rattle.ss_text.specs.Texts.{Text, Row, text_eq}
use Rattle.ss_text.proofs.KeyLemmas.{text_order, equal_is}
use Rattle.ss_text.proofs.PairLemmas.{any_ascending}
use Rattle.flow_law.specs.declared.shape.Shape.{Shape}
use Rattle.flow_law.specs.Facts.{Fact, illegal, illegal_column, conflict}
use Rattle.operator_law.specs.declared.delta.Signed.{Signed}
use Rattle.operator_law.specs.Bags.{MovesBag}
use Rattle.operator_law.proofs.SignedRows.{moves_filtered}
use Rattle.unfold_op.specs.FactMoves.{facts_in}
use Rattle.unfold_op.specs.OneTables.{OneTableValue, KeepsFacts, CanKeep}
use Rattle.unfold_op.proofs.BagMoves.{facts_move, totals_move}
use Rattle.unfold_op.proofs.LabelsBorne.{bear_after}
use Rattle.split_op.specs.declared.groups.Group.{Group}
use Rattle.split_op.specs.declared.stages.Stage.{Stage}
use Rattle.split_op.specs.Groups.{group_label, grouped}
use Rattle.split_op.specs.Labels.{label_in, rows_of, moves_of, labels_moved}
use Rattle.split_op.specs.Parts.{SameColumns, KeepsPart}
use Rattle.split_op.specs.Stages.{MovesPart, AreReady}
use Rattle.split_op.specs.Splits.{SplitValue, KeepsAll, KeepsSplit, CanKeepSplit, CanPrepareSplit, MovesAll, part_of}
use Rattle.split_op.proofs.Columns.{can_keep_columns}
use Rattle.split_op.proofs.PartMoves.{none_left}
use Rattle.split_op.proofs.Committing.{any_of_labels}
use Rattle.split_op.proofs.Grouped.{groups_labels}
use Rattle.split_op.proofs.SplitMoves.{can_keep_label, fewer}

-- facts that are kept are kept in any order
pub same_kept : (t : OneTableValue) (xs ys : List Row) → KeepsFacts t xs → MovesBag xs [] ys → illegal_column t.shape.constants (facts_in t.shape ys) ≡ None → KeepsFacts t ys
same_kept t xs ys k moves legal =
    let counts = (facts_move t.shape xs ys [] moves).counts in
    let same : (p : Fact → Bool) → count_by p (facts_in t.shape xs) ≡ count_by p (facts_in t.shape ys) = λ p. omega (arith, counts p) in
    record {
      stands = record {
        keys = λ key. k.stands.keys key ∙ same _;
        columns = λ column. k.stands.columns column ∙ same _;
        entries = λ e. k.stands.entries e ∙ same _;
      };
      total = omega (arith, k.total, totals_move xs ys [] moves);
      bear = bear_after t.label (facts_in t.shape xs) [] (facts_in t.shape ys) (facts_move t.shape xs ys [] moves) k.bear tt;
      legal = legal;
    }

module _ {I : Type 0} (table : I → OneTableValue) (shape : Shape) where
  same_part : (o : Option I) (xs ys : List Row) → KeepsPart table shape o xs → MovesBag xs [] ys → CanKeep shape ys → KeepsPart table shape o ys
  same_part None xs ys k moves can = none_left ys (omega (arith, ap length k, totals_move xs ys [] moves))
  same_part (Some t) xs ys k moves can = (
    record { columns = k.0.columns; keeps = same_kept (table t) xs ys k.0.keeps moves (can_keep_columns shape (table t).shape k.0.columns ys can).legal },
    omega (arith, k.1, totals_move xs ys [] moves),
  )

  pub same_all : (at : Text → Option I) (xs ys : List Row) → KeepsAll table shape at xs → MovesBag xs [] ys → CanKeepSplit shape ys → KeepsAll table shape at ys
  same_all at xs ys k moves can = record {
    parts = λ label. same_part (at label) (rows_of label xs) (rows_of label ys) (k.parts label) (moves_filtered (λ (row : Row). text_eq label (label_in row)) [] xs ys moves) (can_keep_label shape ys can label);
    legal = can.legal;
    clean = can.clean;
  }

  module _ {R : Type 0} (waiting : I → Option (List Signed)) (made_for : R → List Signed) (form : Shape) (columns : SameColumns shape form) (at now : Text → Option I) (ms : List Signed) where
    -- stages are made for the moves of their labels
    made_each : (ls : List Text) (ss : List (Stage I R)) → map (λ (s : Stage I R). s.label) ss ≡ map group_label (grouped ms ls) → map (λ (s : Stage I R). made_for s.ready) ss ≡ map (λ (g : Group). g.moves) (grouped ms ls)
        → AllByRecursion (λ (s : Stage I R). made_for s.ready ≡ moves_of s.label ms) ss
    made_each ls [] labels made = tt
    made_each [] (s ∷ ss) labels made = absurd (cc)
    made_each (l ∷ ls) (s ∷ ss) labels made =
        let label : s.label ≡ l = cc in
        let own : made_for s.ready ≡ moves_of l ms = cc in
        let rest_labels : map (λ (t : Stage I R). t.label) ss ≡ map group_label (grouped ms ls) = cc in
        let rest_made : map (λ (t : Stage I R). made_for t.ready) ss ≡ map (λ (g : Group). g.moves) (grouped ms ls) = cc in
        (own ∙ ap (λ (k : Text). moves_of k ms) (sym label), made_each ls ss rest_labels rest_made)

    -- a label of a stage is moved
    moved_label : (ss : List (Stage I R)) (label : Text) (x y : List Row) → list_any (λ (s : Stage I R). text_eq label s.label) ss ≡ true → AllByRecursion (λ (s : Stage I R). made_for s.ready ≡ moves_of s.label ms) ss
        → AllByRecursion (MovesPart table made_for form at now) ss → KeepsPart table shape (at label) x → MovesBag x (moves_of label ms) y → CanKeep shape y → KeepsPart table shape (now label) y
    moved_label [] label x y any made moved k moves can = absurd (cc)
    moved_label (s ∷ ss) label x y any made moved k moves can = by_test (text_eq label s.label) refl any (λ rest. moved_label ss label x y rest made.1 moved.1 k moves can)
      where
        by_test : (b : Bool) → text_eq label s.label ≡ b → (b || list_any (λ (t : Stage I R). text_eq label t.label) ss) ≡ true → (list_any (λ (t : Stage I R). text_eq label t.label) ss ≡ true → KeepsPart table shape (now label) y) → KeepsPart table shape (now label) y
        by_test true e h more =
            let same : label ≡ s.label = equal_is text_order label s.label e in
            subst (λ (q : Text). KeepsPart table shape (now q) y) (sym same)
            (moved.0.moved shape x y columns (subst (λ (q : Text). KeepsPart table shape (at q) x) same k) (subst (λ (ns : List Signed). MovesBag x ns y) (ap (λ (q : Text). moves_of q ms) same ∙ sym made.0) moves) can)
        by_test false e h more = more h

    -- a label that is not named has no moves
    no_moves : (label : Text) (ns : List Signed) → list_any (text_eq label) (map (λ (m : Signed). label_in m.row) ns) ≡ false → moves_of label ns ≡ []
    no_moves label [] none = refl
    no_moves label (n ∷ ns) none = by_test (text_eq label (label_in n.row)) none (λ rest. no_moves label ns rest)
      where
        by_test : (b : Bool) → (b || list_any (text_eq label) (map (λ (m : Signed). label_in m.row) ns)) ≡ false → (list_any (text_eq label) (map (λ (m : Signed). label_in m.row) ns) ≡ false → moves_of label ns ≡ []) → cond b (n ∷ moves_of label ns) (moves_of label ns) ≡ []
        by_test true e more = absurd (cc)
        by_test false e more = more e

    module _ (stages : List (Stage I R)) (ready : AreReady table waiting made_for form at (grouped ms (labels_moved ms)) stages) (moved : AllByRecursion (MovesPart table made_for form at now) stages) (others : (q : Text) → list_any (λ (s : Stage I R). text_eq q s.label) stages ≡ false → now q ≡ at q) where
      pub kept_after : (x y : List Row) → KeepsAll table shape at x → MovesBag x ms y → CanKeepSplit shape y → KeepsAll table shape now y
      kept_after x y k moves can = record { parts = λ label. by_test label (list_any (λ (s : Stage I R). text_eq label s.label) stages) refl; legal = can.legal; clean = can.clean }
        where
          own : (label : Text) → MovesBag (rows_of label x) (moves_of label ms) (rows_of label y)
          own label = moves_filtered (λ (row : Row). text_eq label (label_in row)) ms x y moves

          by_test : (label : Text) (b : Bool) → list_any (λ (s : Stage I R). text_eq label s.label) stages ≡ b → KeepsPart table shape (now label) (rows_of label y)
          by_test label true e = moved_label stages label (rows_of label x) (rows_of label y) e (made_each (labels_moved ms) stages ready.labels ready.made) moved (k.parts label) (own label) (can_keep_label shape y can label)
          by_test label false e =
              let unnamed : list_any (text_eq label) (map (λ (m : Signed). label_in m.row) ms) ≡ false =
              sym (any_ascending text_order label (map (λ (m : Signed). label_in m.row) ms)) ∙ ap (list_any (text_eq label)) (sym (ready.labels ∙ groups_labels ms (labels_moved ms))) ∙ sym (any_of_labels label stages) ∙ e in
              subst (λ (o : Option I). KeepsPart table shape o (rows_of label y)) (sym (others label e))
              (same_part (at label) (rows_of label x) (rows_of label y) (k.parts label) (subst (λ (ns : List Signed). MovesBag (rows_of label x) ns (rows_of label y)) (no_moves label ms unnamed) (own label)) (can_keep_label shape y can label))

-- where there are no operators no facts are kept
pub none_kept : {I : Type 0} (table : I → OneTableValue) (shape : Shape) (at : Text → Option I) → ((label : Text) → at label ≡ None) → KeepsAll table shape at []
unfolding illegal conflict
none_kept table shape at none = record { parts = λ label. subst (λ o. KeepsPart table shape o []) (sym (none label)) refl; legal = refl; clean = refl }

module _ {I : Type 0} (table : I → OneTableValue) (ms : List Signed) where
  -- rows that are kept in the same way are equally many
  same_count : (shape : Shape) (o : Option I) (xs ys : List Row) → KeepsPart table shape o xs → KeepsPart table shape o ys → length xs ≡ length ys
  same_count shape None xs ys k h = ap length k ∙ sym (ap length h)
  same_count shape (Some t) xs ys k h = sym k.0.keeps.total ∙ h.0.keeps.total

  -- whatever facts are kept, the moves fit them
  pub moves_any : (v : SplitValue I) → v.shape.label ≡ None → SameColumns v.shape (table v.pattern).shape → CanPrepareSplit table v ms → (old new : List Row) → KeepsSplit table v old → MovesBag old ms new
      → MovesAll table v.shape v.pattern (part_of v.parts) ms old new
  moves_any v label columns can old new k moves = record { label = label; columns = columns; keeps = k; wide = can.wide; moves = moves; few = few }
    where
      own : (q : Text) (xs ys : List Row) → MovesBag xs ms ys → MovesBag (rows_of q xs) (moves_of q ms) (rows_of q ys)
      own q xs ys m = moves_filtered (λ (row : Row). text_eq q (label_in row)) ms xs ys m

      few : (q : Text) → length (rows_of q new) < 2 ^ 128
      few q = omega (
        arith,
        can.few,
        fewer (λ (row : Row). text_eq q (label_in row)) can.new,
        same_count v.shape (part_of v.parts q) (rows_of q old) (rows_of q can.old) (k.parts q) (can.keeps.parts q),
        totals_move (rows_of q old) (rows_of q new) (moves_of q ms) (own q old new moves),
        totals_move (rows_of q can.old) (rows_of q can.new) (moves_of q ms) (own q can.old can.new can.moves),
      )
