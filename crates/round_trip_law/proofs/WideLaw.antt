-- Names that become values, and columns again.
use Rattle.std.proofs.Common.{◌≡◌, ◌∙◌, ◌||◌, true, List, [], ◌∷◌, ◌++◌, map, length, refl, ap}
use Rattle.std.specs.Prelude.{not, filter, is_some}
use Rattle.std.specs.List.{list_any}
use Rattle.std.proofs.lemmas.List.{length-map}
use Rattle.ss_text.specs.Texts.{Row}
use Rattle.ss_text.specs.Label.{is_table_label, is_column_label}
use Rattle.ss_text.proofs.GroupLemmas.{map_agree}
use Rattle.schema_model.specs.Catalogue.{RelationValue, CatalogueValue, relation_value, database_value}
use Rattle.schema_model.specs.Sound.{IsRelation}
use Rattle.flow_law.specs.FactTables.{value_for}
use Rattle.view_meaning.specs.Meaning.{facts, shape_of}
use Rattle.view_meaning.specs.Orders.{text_under}
use Rattle.view_stack.specs.Stands.{catalogue_for, given_by}
use Rattle.round_trip_law.specs.Forms.{Named, Parts, from_values, from_columns, to_values, to_columns}
use Rattle.round_trip_law.specs.Kept.{there_and_back, is_refused, says, kept_names, kept_keys, text_for, some_clash_under, wide}
use Rattle.round_trip_law.specs.Law.{HasKeys, IsThroughValues, ValuesKeepTexts}
use Rattle.round_trip_law.proofs.ColumnsKept.{facts_made, row_made, columns_made}
use Rattle.round_trip_law.proofs.Entries.{Entry, AreFull, column_fact, facts_are, makes_columns}
use Rattle.round_trip_law.proofs.Members.{all_by}
use Rattle.view_meaning.proofs.OrderLemmas.{map_in, flat_in}
use Rattle.round_trip_law.proofs.RefusedColumns.{columns_refused}
use Rattle.round_trip_law.proofs.SourceLemmas.{column_entry, column_entries, columns_said, columns_named}
use Rattle.round_trip_law.proofs.RelationLemmas.{relation_fits}
use Rattle.round_trip_law.proofs.ThroughLemmas.{through_values}
use Rattle.round_trip_law.proofs.WideLemmas.{names_are, keys_are, text_is, illegal_is, clash_is}

module _ (p : Parts) (at middle to : Named) (c : CatalogueValue) (r : RelationValue) (has : HasKeys p at c r) (legal : is_table_label to.rel ≡ true) where
  abbrev es : List Entry
  es = column_entries p r

  fits : IsRelation r
  fits = relation_fits c at.db at.rel r has.sound has.there

  through : IsThroughValues p middle c (from_columns p at) (to_columns p to)
  through = ((through_values p at middle to c has.distinct).0).columns

  are : facts c (to_columns p to (from_columns p at)) ≡ facts_made p to es
  are =
      facts_are c (from_columns p at) (to_columns p to (from_columns p at)) (column_fact to) (makes_columns p (from_columns p at) to) (columns_named p at c)
      ∙ ap (map (column_fact to)) (columns_said p at c r has.there fits.fits has.keys)

  -- each entry has a text for each key
  full : AreFull p es
  full = all_by (λ (e : Entry). length e.key ≡ length p.keys) es
      (λ e i.
      let name = flat_in (λ name. map (column_entry p r.attributes name) (filter (says p r.attributes name) r.rows)) r.attributes e i in
      let row = map_in (column_entry p r.attributes name.0) e (filter (says p r.attributes name.0) r.rows) name.2 in
      ap (λ (f : Entry). length f.key) row.2 ∙ length-map p.keys (text_under r.attributes row.0))

  refused : is_refused (given_by c (to_values p middle (from_columns p at))) (to_columns p to (from_values p middle)) ≡ (list_any (λ a. not (is_column_label a p.keys)) (kept_names p r) || some_clash_under p r)
  refused = ap is_some through.refused ∙ columns_refused p to legal c (from_columns p at) es are ∙ (λ i. illegal_is p r to i || clash_is p r i)

  row_is : (key : Row) → row_made p to es key ≡ key ++ map (text_for p r key) (kept_names p r)
  row_is key =
      ap (λ (names : Row). key ++ map (value_for (facts_made p to es) key) names) (names_are p r to)
      ∙ ap (λ (texts : Row). key ++ texts) (map_agree (value_for (facts_made p to es) key) (text_for p r key) (kept_names p r) (all_by (λ a. value_for (facts_made p to es) key a ≡ text_for p r key a) (kept_names p r) (λ a i. text_is p r to key a i)))

  rows_are : (keys : List Row) → map (row_made p to es) keys ≡ map (λ key. key ++ map (text_for p r key) (kept_names p r)) keys
  rows_are [] = refl
  rows_are (key ∷ keys) = λ i. row_is key i ∷ rows_are keys i

  rows : there_and_back c (to_values p middle (from_columns p at)) (to_columns p to (from_values p middle)) ≡ wide p to r
  rows =
      ap (catalogue_for to.db (shape_of (to_columns p to (from_columns p at)))) through.tables
      ∙ columns_made p to es full c (from_columns p at) are
      ∙ (λ i. database_value to.db (relation_value to.rel (p.keys ++ names_are p r to i) ((ap (map (row_made p to es)) (keys_are p r to) ∙ rows_are (kept_keys p r)) i) ∷ []) ∷ [])

pub values_keep_texts : ValuesKeepTexts
values_keep_texts p at middle to c r has legal = record { refused = refused p at middle to c r has legal; rows = rows p at middle to c r has legal }
