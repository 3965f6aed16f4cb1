-- Rows and moves that pass the test of facts.
use Rattle.std.proofs.Common.{◌≡◌, ◌<◌, List, [], ◌∷◌, Option, Some, None, true, refl, sym, ◌∙◌, length}
use Rattle.std.specs.Prelude.{◌^◌, slice_index_or}
use Rattle.std.specs.List.{list_all, AllByRecursion}
use Rattle.std.proofs.lemmas.Bool.{eqb-true, and_parts}
use Rattle.std.proofs.lemmas.List.Elements.{All-from_recursion}
use Rattle.std.proofs.lemmas.Slice.Eq.{bytes_eq-Decides}
use Rattle.ss_text.specs.Texts.{Text, Row}
use Rattle.flow_law.specs.declared.shape.Shape.{Shape}
use Rattle.flow_law.specs.FactRows.{fact_width}
use Rattle.flow_law.specs.Labelled.{BearLabel}
use Rattle.operator_law.specs.declared.delta.Signed.{Signed}
use Rattle.operator_law.specs.Bags.{MovesBag}
use Rattle.unfold_op.specs.FactMoves.{facts_in, facts_moved}
use Rattle.view_engine.specs.Forms.{MovesForm}
use Rattle.engine_tests.specs.Facts.{bears, is_fact_row}

module _ (shape : Shape) where
  is_wide : (row : Row) → is_fact_row shape row ≡ true → length row ≡ fact_width shape
  is_wide row e = eqb-true _ _ (and_parts _ _ e).0

  is_labelled : (o : Option Text) (row : Row) → bears o row ≡ true → (label : Text) → o ≡ Some label → slice_index_or row 0 [] ≡ label
  is_labelled None row e label is = absurd (cc)
  is_labelled (Some l) row e label is = sym ((bytes_eq-Decides l (slice_index_or row 0 [])).0 e) ∙ (cc)

  -- rows that pass bear the label, where it is a constant
  rows_bear : (o : Option Text) → shape.label ≡ o → (rows : List Row) → list_all (is_fact_row shape) rows ≡ true → BearLabel o (facts_in shape rows)
  rows_bear None is rows e = tt
  rows_bear (Some label) is [] e = tt
  rows_bear (Some label) is (row ∷ rows) e =
      let rest = and_parts _ _ e in
      (is_labelled shape.label row (and_parts _ _ rest.0).1 label is, rows_bear (Some label) is rows rest.1)

  moves_bear : (o : Option Text) → shape.label ≡ o → (ms : List Signed) → list_all (λ (m : Signed). is_fact_row shape m.row) ms ≡ true → BearLabel o (facts_moved shape ms)
  moves_bear None is ms e = tt
  moves_bear (Some label) is [] e = tt
  moves_bear (Some label) is (m ∷ ms) e =
      let rest = and_parts _ _ e in
      (is_labelled shape.label m.row (and_parts _ _ rest.0).1 label is, moves_bear (Some label) is ms rest.1)

  moves_wide : (ms : List Signed) → list_all (λ (m : Signed). is_fact_row shape m.row) ms ≡ true → AllByRecursion (λ (m : Signed). length m.row ≡ fact_width shape) ms
  moves_wide [] e = tt
  moves_wide (m ∷ ms) e =
      let rest = and_parts _ _ e in
      (is_wide m.row rest.0, moves_wide ms rest.1)

  -- moves that pass, to rows that pass, are moves of facts of this form
  pub are_moves : (ms : List Signed) (old new : List Row) → MovesBag old ms new → list_all (is_fact_row shape) new ≡ true → list_all (λ (m : Signed). is_fact_row shape m.row) ms ≡ true → length new < 2 ^ 128 → MovesForm shape ms old new
  are_moves ms old new moves rows tested few = record {
    wide = All-from_recursion _ ms (moves_wide ms tested);
    bear = moves_bear shape.label refl ms tested;
    bear_new = rows_bear shape.label refl new rows;
    moves = moves;
    few = few;
  }
