-- The tables of facts: they are in order, and what they are where the label is constant, and where it is a variable.
use Rattle.std.proofs.Common.{◌≡◌, List, [], ◌∷◌, ◌++◌, Some, None, map, length, refl, sym, ap, subst, ◌∙◌}
use Rattle.std.specs.Prelude.{option_to_list}
use Rattle.std.specs.List.{filter_map, AllByRecursion}
use Rattle.std.specs.List.Sorted.{IsStrictlySortedBy}
use Rattle.std.specs.Map.{keys_of}
use Rattle.std.proofs.lemmas.List.{length-map}
use Rattle.std.proofs.lemmas.Cmp.{tied_itself}
use Rattle.ss_text.specs.Texts.{Text, Row, text_cmp, row_cmp}
use Rattle.ss_text.specs.Ascending.{with_element, ascending}
use Rattle.ss_text.proofs.KeyLemmas.{text_order, row_order, equal_itself}
use Rattle.ss_text.proofs.GroupLemmas.{inner, strict_ascending}
use Rattle.flow_law.specs.declared.shape.Shape.{Shape}
use Rattle.flow_law.specs.Facts.{Fact, column_of, facts_of}
use Rattle.flow_law.specs.FactOrder.{by_key, fact_cmp}
use Rattle.flow_law.specs.Tables.{TableValue}
use Rattle.flow_law.specs.InOrder.{IsTable, AreTables}
use Rattle.flow_law.specs.FactTables.{value_for, fact_table, tables}
use Rattle.flow_law.specs.Labelled.{AllBear, label_tables}

keys_made : {K B : Type 0} (f : K → B) (keys : List K) → keys_of (map (λ (k : K). let entry : K × B = (k, f k) in entry) keys) ≡ keys
keys_made f [] = refl
keys_made {K} f (k ∷ ks) = ap (λ (rest : List K). k ∷ rest) (keys_made f ks)

-- each row has a cell for each column
pub fact_table_in_order : (fs : List Fact) → IsTable (fact_table fs)
fact_table_in_order fs = record {
  columns = strict_ascending text_order.total (filter_map column_of fs);
  keys = subst (IsStrictlySortedBy row_cmp) (sym (keys_made (λ (key : Row). map (value_for fs key) columns) keys)) (strict_ascending row_order.total (map (λ (f : Fact). f.key) fs));
  cells = each keys;
}
  where
    columns : Row
    columns = ascending text_cmp (filter_map column_of fs)

    keys : List Row
    keys = ascending row_cmp (map (λ (f : Fact). f.key) fs)

    each : (ks : List Row) → AllByRecursion (λ (r : Row × Row). length r.1 ≡ length columns) (map (λ (key : Row). let row : Row × Row = (key, map (value_for fs key) columns) in row) ks)
    each [] = tt
    each (k ∷ ks) = (length-map columns _, each ks)

-- each label has its table
pub tables_in_order : (shape : Shape) (fs : List Fact) → AreTables (tables shape fs)
unfolding tables
tables_in_order shape fs = record {
  labels = subst (IsStrictlySortedBy text_cmp) (sym (keys_made (λ (label : Text). fact_table (facts_of label fs)) labels)) (strict_ascending text_order.total (option_to_list shape.label ++ map (λ (f : Fact). f.label) fs));
  tables = each labels;
}
  where
    labels : List Text
    labels = ascending text_cmp (option_to_list shape.label ++ map (λ (f : Fact). f.label) fs)

    each : (ls : List Text) → AllByRecursion (λ (p : Text × TableValue). IsTable p.1) (map (λ (label : Text). let p : Text × TableValue = (label, fact_table (facts_of label fs)) in p) ls)
    each [] = tt
    each (l ∷ ls) = (fact_table_in_order (facts_of l fs), each ls)

-- facts that all bear one label
module _ (label : Text) where
  all_of_label : (fs : List Fact) → AllBear label fs → facts_of label fs ≡ fs
  all_of_label [] h = refl
  all_of_label (f ∷ fs) h = rw (h.0, equal_itself text_order label, all_of_label fs h.1) refl

  one_label : (fs : List Fact) → AllBear label fs → ascending text_cmp (label ∷ map (λ (f : Fact). f.label) fs) ≡ label ∷ []
  one_label [] h = refl
  one_label (f ∷ fs) h = rw h.0 (ap (with_element text_cmp label) (one_label fs h.1) ∙ again)
    where
      again : with_element text_cmp label (label ∷ []) ≡ label ∷ []
      again = rw (tied_itself text_order.total label) refl

  one_table : (fs : List Fact) → AllBear label fs → map (λ (t : Text). let entry : Text × TableValue = (t, fact_table (facts_of t fs)) in entry) (ascending text_cmp (label ∷ map (λ (f : Fact). f.label) fs)) ≡ (label, fact_table fs) ∷ []
  one_table fs h = rw (one_label fs h, all_of_label fs h) refl

  pub sorted_by_key : (fs : List Fact) → AllBear label fs → IsStrictlySortedBy fact_cmp fs → IsStrictlySortedBy by_key fs
  sorted_by_key fs h s = subst (IsStrictlySortedBy by_key) (all_of_label fs h) (inner text_order (λ (f : Fact). f.label) by_key label fs s)

  -- they have one table
  pub constant_tables : (shape : Shape) (fs : List Fact) → shape.label ≡ Some label → AllBear label fs → tables shape fs ≡ (label, fact_table fs) ∷ []
  unfolding tables
  constant_tables shape fs e h = rw e (one_table fs h)

-- where the label is a variable, the labels are those of the facts
pub variable_tables : (shape : Shape) (fs : List Fact) → shape.label ≡ None → tables shape fs ≡ label_tables fs
unfolding tables
variable_tables shape fs e = rw e refl
