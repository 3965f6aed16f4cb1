-- Which views from one form to another are refused, and what a view back has.
use Rattle.std.specs.Prelude.{◌≡◌, ◌≤◌, true, false, not, ◌||◌, length, bytes_eq, Some}
use Rattle.std.specs.List.{list_all, list_any, IsDistinct}
use Rattle.ss_text.specs.Texts.{Text, is_in}
use Rattle.ss_text.specs.Label.{is_table_label, is_column_label}
use Rattle.schema_model.specs.Catalogue.{RelationValue, CatalogueValue, relation_of}
use Rattle.schema_model.specs.Sound.{IsSound}
use Rattle.view_def.specs.Profile.{IsViewOfProfile}
use Rattle.view_def.specs.Query.{Query}
use Rattle.view_meaning.specs.Meaning.{meaning}
use Rattle.view_meaning.specs.Orders.{text_under, rows_under}
use Rattle.view_meaning.specs.Refusal.{refusal}
use Rattle.view_stack.specs.Stands.{given_by}
use Rattle.round_trip_law.specs.Forms.{Named, Parts, header, Source, from_values, from_columns, from_tables, to_values, to_columns, to_tables}
use Rattle.round_trip_law.specs.Kept.{there_and_back, is_refused, alone, with_values, some_clash, kept_names, some_clash_under, wide}

-- ---- the views
-- attributes that are all different, with a key among them, and legal labels
pub record AreLegal (p : Parts) (to : Named) : Type 0 where
  pub distinct : IsDistinct bytes_eq (header p)
  pub some_key : 1 ≤ length p.keys
  pub db : is_table_label to.db ≡ true
  pub rel : is_table_label to.rel ≡ true

pub record AreViews (p : Parts) (to : Named) (s : Source) : Type 0 where
  pub values : IsViewOfProfile (to_values p to s)
  pub columns : IsViewOfProfile (to_columns p to s)
  pub tables : IsViewOfProfile (to_tables p to.db s)

-- the language has a view from each form to each
abbrev pub FormsAreViews : Type 0
FormsAreViews = (p : Parts) (at to : Named) → AreLegal p to → AreViews p to (from_values p at) × AreViews p to (from_columns p at) × AreViews p to (from_tables p at.db)

-- one that makes values is never refused
abbrev pub ValuesAreMade : Type 0
ValuesAreMade = (p : Parts) (to : Named) (s : Source) (c : CatalogueValue) → is_table_label to.rel ≡ true → is_refused c (to_values p to s) ≡ false

-- ---- values to tables and back, values to columns and back
-- a sound catalogue has this relation, and the relation these attributes, in whatever order
pub record HasParts (p : Parts) (at : Named) (c : CatalogueValue) (r : RelationValue) : Type 0 where
  pub distinct : IsDistinct bytes_eq (header p)
  pub sound : IsSound c
  pub there : relation_of c at.db at.rel ≡ Some r
  pub parts : list_all (λ name. is_in name r.attributes) (header p) ≡ true

-- refused where a name is no legal label; and the view back has all rows
pub record KeepsByTables (p : Parts) (at : Named) (middle : Text) (to : Named) (c : CatalogueValue) (r : RelationValue) : Type 0 where
  pub refused : is_refused c (to_tables p middle (from_values p at)) ≡ list_any (λ row. not (is_table_label (text_under r.attributes row p.name))) r.rows
  pub rows : there_and_back c (to_tables p middle (from_values p at)) (to_values p to (from_tables p middle)) ≡ alone p to (rows_under (header p) r)

abbrev pub TablesKeepRows : Type 0
TablesKeepRows = (p : Parts) (at : Named) (middle : Text) (to : Named) (c : CatalogueValue) (r : RelationValue) → HasParts p at c r → KeepsByTables p at middle to c r

-- refused where a name is no legal column beside the keys, or two rows clash; else the view back has all rows with a value
pub record KeepsByColumns (p : Parts) (at middle to : Named) (c : CatalogueValue) (r : RelationValue) : Type 0 where
  pub refused : is_refused c (to_columns p middle (from_values p at))
      ≡ (list_any (λ row. not (is_column_label (text_under r.attributes row p.name) p.keys)) r.rows || some_clash p r)
  pub rows : is_refused c (to_columns p middle (from_values p at)) ≡ false
      → there_and_back c (to_columns p middle (from_values p at)) (to_values p to (from_columns p middle)) ≡ alone p to (rows_under (header p) (with_values p r))

abbrev pub ColumnsKeepValues : Type 0
ColumnsKeepValues =
    (p : Parts) (at middle to : Named) (c : CatalogueValue) (r : RelationValue) → HasParts p at c r → is_table_label middle.rel ≡ true → KeepsByColumns p at middle to c r

-- ---- columns to values and back
-- a sound catalogue has this relation, and the relation the attributes of a key
pub record HasKeys (p : Parts) (at : Named) (c : CatalogueValue) (r : RelationValue) : Type 0 where
  pub distinct : IsDistinct bytes_eq (header p)
  pub sound : IsSound c
  pub there : relation_of c at.db at.rel ≡ Some r
  pub keys : list_all (λ name. is_in name r.attributes) p.keys ≡ true

-- the view back is refused where a name that has a text is no legal column, or two rows clash; and it has each text
pub record KeepsByValues (p : Parts) (at middle to : Named) (c : CatalogueValue) (r : RelationValue) : Type 0 where
  pub refused : is_refused (given_by c (to_values p middle (from_columns p at))) (to_columns p to (from_values p middle))
      ≡ (list_any (λ name. not (is_column_label name p.keys)) (kept_names p r) || some_clash_under p r)
  pub rows : there_and_back c (to_values p middle (from_columns p at)) (to_columns p to (from_values p middle)) ≡ wide p to r

abbrev pub ValuesKeepTexts : Type 0
ValuesKeepTexts = (p : Parts) (at middle to : Named) (c : CatalogueValue) (r : RelationValue) → HasKeys p at c r → is_table_label to.rel ≡ true → KeepsByValues p at middle to c r

-- ---- columns to tables, tables to columns
-- a view over a source is the one over the values that are made of the source
pub record IsThroughValues (p : Parts) (middle : Named) (c : CatalogueValue) (s : Source) (to : Source → Query) : Type 0 where
  pub tables : meaning (given_by c (to_values p middle s)) (to (from_values p middle)) ≡ meaning c (to s)
  pub refused : refusal (given_by c (to_values p middle s)) (to (from_values p middle)) ≡ refusal c (to s)

pub record AreThroughValues (p : Parts) (middle to : Named) (c : CatalogueValue) (s : Source) : Type 0 where
  pub columns : IsThroughValues p middle c s (to_columns p to)
  pub tables : IsThroughValues p middle c s (to_tables p to.db)

abbrev pub ThroughValues : Type 0
ThroughValues =
    (p : Parts) (at middle to : Named) (c : CatalogueValue) → IsDistinct bytes_eq (header p) → AreThroughValues p middle to c (from_columns p at) × AreThroughValues p middle to c (from_tables p at.db)
