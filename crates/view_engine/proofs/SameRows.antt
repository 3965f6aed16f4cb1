-- Tables keep the same facts in any order.
use Rattle.std.proofs.Common.{◌≡◌, ◌+◌, [], ℕ, List, Some, None, refl, sym, ◌∙◌, ap, subst, map, arith, append-nil}
use Rattle.std.specs.Prelude.{not, option_map}
use Rattle.std.specs.Option.{option_or}
use Rattle.ss_text.specs.Texts.{Text, Row}
use Rattle.ss_text.specs.Label.{is_table_label, is_column_label}
use Rattle.ss_text.proofs.KeyLemmas.{text_order}
use Rattle.ss_text.proofs.SetLemmas.{SameElements, same_map, same_filter, same_filter_map, least_of_same}
use Rattle.schema_model.specs.Catalogue.{CatalogueValue}
use Rattle.schema_model.specs.Sound.{IsSound}
use Rattle.view_def.specs.Query.{Query}
use Rattle.view_def.specs.Profile.{IsViewOfProfile}
use Rattle.flow_law.specs.declared.shape.Shape.{Shape}
use Rattle.flow_law.specs.declared.refused.IllegalLabel.{IllegalLabel}
use Rattle.flow_law.specs.Facts.{Fact, Pair, illegal, illegal_table, illegal_column, conflict}
use Rattle.flow_law.specs.FactRows.{fact_row, IsFactOf}
use Rattle.flow_law.specs.Labelled.{BearLabel}
use Rattle.flow_law.proofs.RefusedLemmas.{pair_total, pair_same}
use Rattle.flow_law.proofs.SameFacts.{conflict_same}
use Rattle.fact_tables.specs.Counted.{EachAsOften}
use Rattle.view_meaning.specs.Meaning.{facts, shape_of}
use Rattle.view_meaning.specs.Refusal.{refusal}
use Rattle.view_meaning.proofs.EvalLemmas.{bear}
use Rattle.view_engine.proofs.FactsForm.{have_form, read_back}
use Rattle.operator_law.specs.Bags.{MovesBag, SameBag}
use Rattle.plan_law.specs.PlanMoves.{fact_rows}
use Rattle.unfold_op.specs.OneTables.{OneTableValue}
use Rattle.unfold_op.proofs.BagMoves.{totals_move}
use Rattle.split_op.proofs.SplitKeeps.{same_kept, same_all}
use Rattle.split_op.specs.Splits.{part_of}
use Rattle.view_engine.specs.declared.tables.ViewTables.{ViewTables}
use Rattle.view_engine.specs.declared.tables.ViewTables.TheVariants.{OneOfRows, OneOfCells, EachOfRows, EachOfCells}
use Rattle.view_engine.specs.Forms.{seen, KeepsOne, KeepsTables, CanKeepTables, CanFillTables}
use Rattle.view_engine.proofs.FactForms.{can_keep, in_rows}
use Rattle.view_engine.proofs.OneForms.{can_keep_one}
use Rattle.view_engine.proofs.EachForms.{can_keep_each}
use Rattle.view_engine.proofs.Often.{same_rows, same_elements, each_holds, bear_same}

module _ (fs gs : List Fact) (same : SameElements fs gs) where
  tables_same : illegal_table fs ≡ illegal_table gs
  tables_same = ap (option_map (λ (t : Text). let l : IllegalLabel = record { table = t; column = None } in l)) (least_of_same text_order.total text_order.same _ _ (same_filter (λ (t : Text). not (is_table_label t)) _ _ (same_map (λ (f : Fact). f.label) fs gs same)))

  columns_same : (constants : Row) → illegal_column constants fs ≡ illegal_column constants gs
  columns_same constants = ap (option_map (λ (p : Pair). let l : IllegalLabel = record { table = p.0; column = Some p.1 } in l)) (least_of_same pair_total pair_same _ _ (same_filter (λ (p : Pair). not (is_column_label p.1 constants)) _ _ (same_filter_map _ fs gs same)))

  illegal_same : (shape : Shape) → illegal shape fs ≡ illegal shape gs
  unfolding illegal
  illegal_same shape = λ i. option_or (tables_same i) (columns_same shape.constants i)

pub same_moves : (xs ys : List Row) → SameBag xs ys → MovesBag xs [] ys
same_moves xs ys same f = ap (λ (n : ℕ). n + 0) (same f)

-- the facts of a view, in any order, can be kept where none are
pub can_fill : (c : CatalogueValue) (q : Query) → IsViewOfProfile q → IsSound c → refusal c q ≡ None → (fs : List Fact) → EachAsOften (facts c q) fs → (t : ViewTables) → KeepsTables (shape_of q) t [] → CanFillTables (shape_of q) t fs
can_fill c q profile sound allowed fs often t none =
    let shape = shape_of q in
    let form = each_holds (facts c q) fs often (IsFactOf shape) (have_form c q profile) in
    let can = can_keep c q profile sound allowed in
    let elements = same_elements (facts c q) fs often in
    let read = read_back shape fs form in
    record {
      keeps = none;
      form = form;
      can = subst (CanKeepTables shape) (sym (append-nil (map fact_row fs))) (record {
        few = omega (arith, can.few, totals_move (fact_rows c q) (map fact_row fs) [] (same_moves (fact_rows c q) (map fact_row fs) (same_rows (facts c q) fs often)));
        legal = ap (illegal shape) read ∙ sym (illegal_same (facts c q) fs elements shape) ∙ ap (illegal shape) (sym (in_rows c q profile)) ∙ can.legal;
        clean = ap conflict read ∙ sym (conflict_same (facts c q) fs elements) ∙ ap conflict (sym (in_rows c q profile)) ∙ can.clean;
        bear = subst (BearLabel shape.label) (sym read) (bear_same (facts c q) fs often shape.label (bear c q shape refl (facts c q) refl));
      });
    }

-- tables that keep facts keep them in any order
module _ (shape : Shape) (xs ys : List Row) (moves : MovesBag xs [] ys) (can : CanKeepTables shape ys) where
  same_one : (label : Text) (t : OneTableValue) → KeepsOne shape label t xs → KeepsOne shape label t ys
  same_one label t k =
      let fits = can_keep_one shape label t xs k ys can in
      record { label_is = k.label_is; columns = k.columns; keeps = record { legal = k.keeps.legal; keeps = same_kept t xs ys k.keeps.keeps moves fits.can.legal; bear = fits.bear } }

  pub same_tables : (t : ViewTables) → KeepsTables shape t xs → KeepsTables shape t ys
  same_tables (OneOfRows w) k = same_one w.label w.inner k
  same_tables (OneOfCells w) k = same_one w.label w.inner k
  same_tables (EachOfRows s a) k = record { shape_is = k.shape_is; keeps = same_all seen s.shape (part_of s.parts) xs ys k.keeps moves (can_keep_each shape s xs k ys can) }
  same_tables (EachOfCells s a) k = record { shape_is = k.shape_is; keeps = same_all seen s.shape (part_of s.parts) xs ys k.keeps moves (can_keep_each shape s xs k ys can) }
