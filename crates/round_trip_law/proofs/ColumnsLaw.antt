-- Names that become columns, and values again.
use Rattle.std.proofs.Common.{◌≡◌, ◌∙◌, ◌||◌, Bool, true, false, List, [], ◌∷◌, map, cond, refl, ap}
use Rattle.std.specs.Prelude.{not, filter}
use Rattle.std.specs.List.{list_any}
use Rattle.ss_text.specs.Texts.{Row, row_cmp}
use Rattle.ss_text.specs.Ascending.{ascending}
use Rattle.ss_text.specs.Label.{is_table_label, is_column_label}
use Rattle.ss_text.proofs.KeyLemmas.{row_order}
use Rattle.ss_text.proofs.SetLemmas.{same_map, ascending_of_same}
use Rattle.schema_model.specs.Catalogue.{RelationValue, CatalogueValue, relation_value, database_value}
use Rattle.view_meaning.specs.Meaning.{facts}
use Rattle.view_meaning.specs.Orders.{text_under, rows_under}
use Rattle.view_stack.specs.Stands.{given_by}
use Rattle.round_trip_law.specs.Forms.{Named, Parts, header, from_values, from_columns, to_values, to_columns}
use Rattle.round_trip_law.specs.Kept.{there_and_back, is_refused, alone, has_text, with_values, clash, some_clash}
use Rattle.round_trip_law.specs.Law.{HasParts, ColumnsKeepValues}
use Rattle.round_trip_law.proofs.CellLemmas.{IsApart, apart}
use Rattle.round_trip_law.proofs.ColumnsKept.{read_columns, columns_same, columns_say}
use Rattle.round_trip_law.proofs.Entries.{Entry, AreFull, entry_row, value_fact, column_fact, facts_are, makes_values, makes_columns}
use Rattle.round_trip_law.proofs.RefusedColumns.{columns_refused, names_apart, no_clash}
use Rattle.round_trip_law.proofs.RefusedLemmas.{any_mapped}
use Rattle.round_trip_law.proofs.SourceLemmas.{row_entry, columns_named}
use Rattle.round_trip_law.proofs.RelationLemmas.{row_facts, full_rows, entry_rows}
use Rattle.round_trip_law.proofs.TargetLemmas.{values_made}
use Rattle.round_trip_law.proofs.ValuesAt as entries

filter_mapped : {A B : Type 0} (f : A → B) (test : B → Bool) (xs : List A) → filter test (map f xs) ≡ map f (filter (λ x. test (f x)) xs)
filter_mapped f test [] = refl
filter_mapped f test (x ∷ xs) = by_test (test (f x)) (filter_mapped f test xs)
  where
    by_test : (b : Bool) → filter test (map f xs) ≡ map f (filter (λ x. test (f x)) xs) → cond b (f x ∷ filter test (map f xs)) (filter test (map f xs)) ≡ map f (cond b (x ∷ filter (λ x. test (f x)) xs) (filter (λ x. test (f x)) xs))
    by_test true rest = ap (λ ys. f x ∷ ys) rest
    by_test false rest = rest

module _ (p : Parts) (at middle to : Named) (c : CatalogueValue) (r : RelationValue) (has : HasParts p at c r) (legal : is_table_label middle.rel ≡ true) where
  abbrev es : List Entry
  es = map (row_entry p r.attributes) r.rows

  are : facts c (to_columns p middle (from_values p at)) ≡ map (column_fact middle) es
  are = row_facts p at c r has (to_columns p middle (from_values p at)) (column_fact middle) (makes_columns p (from_values p at) middle)

  full : AreFull p es
  full = full_rows p r.attributes r.rows

  each_clash : (x : Row) (ys : List Row) → list_any (entries.clash (row_entry p r.attributes x)) (map (row_entry p r.attributes) ys) ≡ list_any (clash p r.attributes x) ys
  each_clash x ys = any_mapped (row_entry p r.attributes) (entries.clash (row_entry p r.attributes x)) ys

  all_clash : (xs : List Row) → list_any (λ e. list_any (entries.clash e) es) (map (row_entry p r.attributes) xs) ≡ list_any (λ x. list_any (clash p r.attributes x) r.rows) xs
  all_clash [] = refl
  all_clash (x ∷ xs) = λ i. each_clash x r.rows i || all_clash xs i

  refused : is_refused c (to_columns p middle (from_values p at)) ≡ (list_any (λ row. not (is_column_label (text_under r.attributes row p.name) p.keys)) r.rows || some_clash p r)
  refused =
      columns_refused p middle legal c (from_values p at) es are
      ∙ (λ i. any_mapped (row_entry p r.attributes) (λ (e : Entry). not (is_column_label e.name p.keys)) r.rows i || all_clash r.rows i)

  parts_apart : IsApart p.keys p.name p.value
  parts_apart = apart p.keys p.name p.value has.distinct

  kept : map entry_row (filter (λ (e : Entry). has_text e.value) es) ≡ rows_under (header p) (with_values p r)
  kept =
      ap (map entry_row) (filter_mapped (row_entry p r.attributes) (λ (e : Entry). has_text e.value) r.rows)
      ∙ entry_rows p r.attributes (filter (λ row. has_text (text_under r.attributes row p.value)) r.rows)

  rows : is_refused c (to_columns p middle (from_values p at)) ≡ false → there_and_back c (to_columns p middle (from_values p at)) (to_values p to (from_columns p middle)) ≡ alone p to (rows_under (header p) (with_values p r))
  rows unrefused =
      let back = read_columns p middle es full parts_apart.keys_apart in
      let same = columns_same p middle es full parts_apart.keys_apart (names_apart p middle legal c (from_values p at) es are unrefused) (no_clash p middle legal c (from_values p at) es are unrefused) in
      let c2 : CatalogueValue = given_by c (to_columns p middle (from_values p at)) in
      values_made p to c2 (from_columns p middle) back
      (facts_are c2 (from_columns p middle) (to_values p to (from_columns p middle)) (value_fact to) (makes_values p (from_columns p middle) to) (columns_named p middle c2)
      ∙ ap (map (value_fact to)) (columns_say p middle es full parts_apart.keys_apart c (from_values p at) are))
      ∙ ap (λ (rows : List Row). database_value to.db (relation_value to.rel (header p) rows ∷ []) ∷ [])
      (ascending_of_same row_order.total row_order.same (map entry_row back) (map entry_row (filter (λ (e : Entry). has_text e.value) es)) (same_map entry_row back (filter (λ (e : Entry). has_text e.value) es) same)
      ∙ ap (ascending row_cmp) kept)

pub columns_keep_values : ColumnsKeepValues
columns_keep_values p at middle to c r has legal = record { refused = refused p at middle to c r has legal; rows = rows p at middle to c r has legal }
