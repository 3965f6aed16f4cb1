-- The catalogue that the tables of a view without a variable column are, made of entries.
use Rattle.std.proofs.Common.{◌≡◌, ◌∙◌, List, [], ◌∷◌, ◌++◌, None, map, refl, sym, ap, subst}
use Rattle.std.specs.List.Sorted.{IsStrictlySortedBy}
use Rattle.ss_text.specs.Texts.{Text, Row, text_cmp, row_cmp}
use Rattle.ss_text.specs.Ascending.{ascending}
use Rattle.ss_text.proofs.GroupLemmas.{strict_ascending}
use Rattle.ss_text.proofs.KeyLemmas.{text_order}
use Rattle.schema_model.specs.Catalogue.{RelationValue, CatalogueValue, relation_value, database_value}
use Rattle.flow_law.specs.Facts.{Fact, facts_of}
use Rattle.flow_law.specs.FactTables.{fact_table, tables}
use Rattle.flow_law.specs.Labelled.{AllBear}
use Rattle.flow_law.specs.Tables.{TableValue}
use Rattle.flow_law.proofs.FactTableLemmas.{constant_tables, variable_tables}
use Rattle.view_meaning.specs.Meaning.{facts, shape_of, meaning}
use Rattle.view_stack.specs.Stands.{relation_for, catalogue_for, given_by}
use Rattle.flow_law.specs.Records.{row_records}
use Rattle.round_trip_law.specs.Forms.{Named, Parts, header, Source, to_values, to_tables}
use Rattle.round_trip_law.specs.Kept.{alone}
use Rattle.round_trip_law.proofs.CellLemmas.{mapped_twice}
use Rattle.round_trip_law.proofs.Entries.{Entry, entry_row, value_fact}

-- records without a variable column are the keys
keys_back : (g : Row → Row) (ks : List Row) → row_records None (map (λ (k : Row). let row : Row × Row = (k, g k) in row) ks) ≡ ks
keys_back g [] = refl
keys_back g (k ∷ ks) = ap (λ (rest : List Row). k ∷ rest) (keys_back g ks)

-- ---- to values
module _ (p : Parts) (to : Named) where
  all_bear : (es : List Entry) → AllBear to.rel (map (value_fact to) es)
  all_bear [] = tt
  all_bear (e ∷ es) = (refl, all_bear es)

  module _ (c : CatalogueValue) (s : Source) (es : List Entry) (is : facts c (to_values p to s) ≡ map (value_fact to) es) where
    tables_are : meaning c (to_values p to s) ≡ (to.rel, fact_table (map (value_fact to) es)) ∷ []
    unfolding meaning
    tables_are = ap (tables (shape_of (to_values p to s))) is ∙ constant_tables to.rel (shape_of (to_values p to s)) (map (value_fact to) es) refl (all_bear es)

    pub values_made : given_by c (to_values p to s) ≡ alone p to (map entry_row es)
    values_made =
        ap (catalogue_for to.db (shape_of (to_values p to s))) tables_are
        ∙ ap (λ (rows : List Row). database_value to.db (relation_value to.rel (header p) rows ∷ []) ∷ [])
        (keys_back _ (ascending row_cmp (map (λ (f : Fact). f.key) (map (value_fact to) es))) ∙ ap (ascending row_cmp) (mapped_twice (λ (f : Fact). f.key) (value_fact to) es))

-- ---- to tables
module _ (p : Parts) (db : Text) where
  abbrev pub rest : Row
  rest = p.keys ++ p.value ∷ []

  -- the table of a name
  abbrev pub table_of_name : List Fact → Text → RelationValue
  table_of_name fs name = relation_value name rest (ascending row_cmp (map (λ (f : Fact). f.key) (facts_of name fs)))

  abbrev pub names_of : List Fact → List Text
  names_of fs = ascending text_cmp (map (λ (f : Fact). f.label) fs)

  module _ (c : CatalogueValue) (s : Source) where
    made : (fs : List Fact) (names : List Text) → map (relation_for (shape_of (to_tables p db s))) (map (λ (name : Text). let t : Text × TableValue = (name, fact_table (facts_of name fs)) in t) names) ≡ map (table_of_name fs) names
    made fs [] = refl
    made fs (name ∷ names) =
        let first = keys_back _ (ascending row_cmp (map (λ (f : Fact). f.key) (facts_of name fs))) in
        λ i. relation_value name rest (first i) ∷ made fs names i

    pub tables_made : (fs : List Fact) → facts c (to_tables p db s) ≡ fs → given_by c (to_tables p db s) ≡ database_value db (map (table_of_name fs) (names_of fs)) ∷ []
    unfolding meaning
    tables_made fs is =
        ap (λ (gs : List Fact). catalogue_for db (shape_of (to_tables p db s)) (tables (shape_of (to_tables p db s)) gs)) is
        ∙ ap (catalogue_for db (shape_of (to_tables p db s))) (variable_tables (shape_of (to_tables p db s)) fs refl)
        ∙ ap (λ (ts : List RelationValue). database_value db ts ∷ []) (made fs (names_of fs))

  names_are : (fs : List Fact) (names : List Text) → map (λ (t : RelationValue). t.name) (map (table_of_name fs) names) ≡ names
  names_are fs [] = refl
  names_are fs (name ∷ names) = ap (λ (rest : List Text). name ∷ rest) (names_are fs names)

  pub names_ascend : (fs : List Fact) → IsStrictlySortedBy text_cmp (map (λ (t : RelationValue). t.name) (map (table_of_name fs) (names_of fs)))
  names_ascend fs = subst (IsStrictlySortedBy text_cmp) (sym (names_are fs (names_of fs))) (strict_ascending text_order.total (map (λ (f : Fact). f.label) fs))
