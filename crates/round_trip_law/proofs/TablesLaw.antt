-- Names that become tables, and values again.
use Rattle.std.proofs.Common.{◌≡◌, ◌∙◌, List, [], ◌∷◌, map, refl, ap}
use Rattle.std.specs.Prelude.{not}
use Rattle.std.specs.List.{list_any}
use Rattle.ss_text.specs.Texts.{Text, Row, row_cmp}
use Rattle.ss_text.specs.Ascending.{ascending}
use Rattle.ss_text.specs.Label.{is_table_label}
use Rattle.ss_text.proofs.KeyLemmas.{row_order}
use Rattle.ss_text.proofs.SetLemmas.{same_map, ascending_of_same}
use Rattle.schema_model.specs.Catalogue.{RelationValue, CatalogueValue, relation_value, database_value}
use Rattle.view_meaning.specs.Meaning.{facts}
use Rattle.view_meaning.specs.Orders.{text_under, rows_under}
use Rattle.view_stack.specs.Stands.{given_by}
use Rattle.round_trip_law.specs.Forms.{Named, Parts, header, from_values, from_tables, to_values, to_tables}
use Rattle.round_trip_law.specs.Kept.{there_and_back, is_refused, alone}
use Rattle.round_trip_law.specs.Law.{HasParts, TablesKeepRows}
use Rattle.round_trip_law.proofs.Entries.{Entry, AreFull, entry_row, value_fact, table_fact, facts_are, makes_values, makes_tables}
use Rattle.round_trip_law.proofs.RefusedLemmas.{bare_refused, any_mapped}
use Rattle.round_trip_law.proofs.RelationLemmas.{row_facts, full_rows, entry_rows}
use Rattle.round_trip_law.proofs.SourceLemmas.{row_entry, tables_named}
use Rattle.round_trip_law.proofs.TablesKept.{again, same_again, tables_say}
use Rattle.round_trip_law.proofs.TargetLemmas.{values_made}

module _ (p : Parts) (at : Named) (middle : Text) (to : Named) (c : CatalogueValue) (r : RelationValue) (has : HasParts p at c r) where
  abbrev es : List Entry
  es = map (row_entry p r.attributes) r.rows

  are : facts c (to_tables p middle (from_values p at)) ≡ map table_fact es
  are = row_facts p at c r has (to_tables p middle (from_values p at)) table_fact (makes_tables p (from_values p at) middle)

  full : AreFull p es
  full = full_rows p r.attributes r.rows

  refused : is_refused c (to_tables p middle (from_values p at)) ≡ list_any (λ row. not (is_table_label (text_under r.attributes row p.name))) r.rows
  refused = bare_refused table_fact (λ e. refl) c (to_tables p middle (from_values p at)) es are ∙ any_mapped (row_entry p r.attributes) (λ (e : Entry). not (is_table_label e.name)) r.rows

  rows : there_and_back c (to_tables p middle (from_values p at)) (to_values p to (from_tables p middle)) ≡ alone p to (rows_under (header p) r)
  rows =
      let c2 : CatalogueValue = given_by c (to_tables p middle (from_values p at)) in
      let back : List Entry = again p middle has.distinct es full in
      values_made p to c2 (from_tables p middle) back
      (facts_are c2 (from_tables p middle) (to_values p to (from_tables p middle)) (value_fact to) (makes_values p (from_tables p middle) to) (tables_named p middle c2)
      ∙ ap (map (value_fact to)) (tables_say p middle has.distinct es full c (from_values p at) are))
      ∙ ap (λ (rows : List Row). database_value to.db (relation_value to.rel (header p) rows ∷ []) ∷ [])
      (ascending_of_same row_order.total row_order.same (map entry_row back) (map entry_row es) (same_map entry_row back es (same_again p middle has.distinct es full))
      ∙ ap (ascending row_cmp) (entry_rows p r.attributes r.rows))

pub tables_keep_rows : TablesKeepRows
tables_keep_rows p at middle to c r has = record { refused = refused p at middle to c r has; rows = rows p at middle to c r has }
