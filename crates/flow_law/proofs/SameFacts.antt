-- Facts in order say what the same facts say in any order.
use Rattle.std.proofs.Common.{◌≡◌, List, [], ◌++◌, map, Option, Some, None, refl, ap}
use Rattle.std.specs.Prelude.{not, ◌==◌, length, slice_get, option_to_list, unwrap_or}
use Rattle.std.specs.List.{filter_map}
use Rattle.std.specs.FinMap.{IsAntisymmetric}
use Rattle.ss_text.specs.Texts.{Text, Row, text_cmp, row_cmp, row_eq}
use Rattle.ss_text.specs.Ascending.{ascending}
use Rattle.ss_text.proofs.KeyLemmas.{text_order, row_order}
use Rattle.ss_text.proofs.SetLemmas.{SameElements, same_itself, same_back, same_append, same_map, same_filter, same_filter_map, ascending_of_same, same_ascending, least_of_same}
use Rattle.flow_law.specs.declared.shape.Shape.{Shape}
use Rattle.flow_law.specs.Facts.{Fact, column_of, facts_of, value_in, values_at, spots_of, Spot, clash_of, conflict}
use Rattle.flow_law.specs.Tables.{table_value}
use Rattle.flow_law.specs.FactTables.{value_for, fact_table, tables}
use Rattle.flow_law.specs.FactOrder.{cell_cmp, fact_cmp, fact_total}
use Rattle.flow_law.proofs.Entries.{first_equal, second_equal, spot_order}
use Rattle.flow_law.proofs.RefusedLemmas.{pair_same}

cell_same : IsAntisymmetric cell_cmp
cell_same None None e = refl
cell_same None (Some d) e = absurd (cc)
cell_same (Some c) None e = absurd (cc)
cell_same (Some c) (Some d) e = ap Some (pair_same c d e)

pub fact_same : IsAntisymmetric fact_cmp
fact_same f g e =
    let rest = second_equal (text_cmp f.label g.label) _ e in
    let labels = text_order.same f.label g.label (first_equal (text_cmp f.label g.label) _ e) in
    let keys = row_order.same f.key g.key (first_equal (row_cmp f.key g.key) _ rest) in
    let cells = cell_same f.cell g.cell (second_equal (row_cmp f.key g.key) _ rest) in
    λ i. record { label = labels i; key = keys i; cell = cells i }

module _ (fs gs : List Fact) (same : SameElements fs gs) where
  same_values : (key : Row) (column : Text) → SameElements (values_at fs key column) (values_at gs key column)
  same_values key column =
      same_filter (λ (v : Text). not (length v == 0)) _ _ (same_filter_map (value_in column) _ _ (same_filter (λ (f : Fact). row_eq key f.key) fs gs same))

  value_same : (key : Row) (column : Text) → value_for fs key column ≡ value_for gs key column
  value_same key column = ap (λ (v : Option Text). unwrap_or v []) (least_of_same text_order.total text_order.same _ _ (same_values key column))

  fact_table_same : fact_table fs ≡ fact_table gs
  fact_table_same = λ i. table_value (columns i) (map (λ key. (key, map (λ column. value_same key column i) (columns i))) (keys i))
    where
      columns : ascending text_cmp (filter_map column_of fs) ≡ ascending text_cmp (filter_map column_of gs)
      columns = ascending_of_same text_order.total text_order.same _ _ (same_filter_map column_of fs gs same)

      keys : ascending row_cmp (map (λ (f : Fact). f.key) fs) ≡ ascending row_cmp (map (λ (f : Fact). f.key) gs)
      keys = ascending_of_same row_order.total row_order.same _ _ (same_map (λ (f : Fact). f.key) fs gs same)

module _ (fs gs : List Fact) (same : SameElements fs gs) where
  same_label : (label : Text) → SameElements (facts_of label fs) (facts_of label gs)
  same_label label = same_filter _ fs gs same

  pub tables_same : (shape : Shape) → tables shape fs ≡ tables shape gs
  unfolding tables
  tables_same shape = λ i. map (λ label. (label, fact_table_same _ _ (same_label label) i)) (labels i)
    where
      labels : ascending text_cmp (option_to_list shape.label ++ map (λ (f : Fact). f.label) fs) ≡ ascending text_cmp (option_to_list shape.label ++ map (λ (f : Fact). f.label) gs)
      labels = ascending_of_same text_order.total text_order.same _ _ (same_append _ _ _ _ (same_itself (option_to_list shape.label)) (same_map (λ (f : Fact). f.label) fs gs same))

  values_same : (s : Spot) → ascending text_cmp (values_at (facts_of s.0 fs) s.1 s.2) ≡ ascending text_cmp (values_at (facts_of s.0 gs) s.1 s.2)
  values_same s = ascending_of_same text_order.total text_order.same _ _ (same_values _ _ (same_label s.0) s.1 s.2)

  pub conflict_same : conflict fs ≡ conflict gs
  unfolding conflict
  conflict_same = λ i. slice_get (filter_map (λ (s : Spot). clash_of s (values_same s i)) (spots i)) 0
    where
      spots : spots_of fs ≡ spots_of gs
      spots = ascending_of_same spot_order.total spot_order.same _ _ (same_filter_map _ fs gs same)

-- the facts, each once and in order
pub in_order : (fs : List Fact) → SameElements (ascending fact_cmp fs) fs
in_order fs = same_back _ _ (same_ascending fact_total fact_same fs)
