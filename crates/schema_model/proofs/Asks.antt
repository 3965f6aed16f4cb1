-- What a change that is not refused has.
use Rattle.std.proofs.Common.{◌≡◌, ◌≤◌, ◌∷◌, ◌∙◌, [], List, Option, Some, None, refl, sym, ap, length, arith, Bool, true, false, not, ◌==◌, subst, ℕ, ◌<◌}
use Rattle.std.specs.Prelude.{is_none, is_some, option_map, option_and_then, nat_le, nat_lt}
use Rattle.std.specs.List.{list_any}
use Rattle.std.specs.Option.{option_map_or}
use Rattle.std.proofs.lemmas.Bool.Decides.{Decides-eqb, nat_tests}
use Rattle.ss_text.specs.Texts.{Text, Row, row_eq, is_in}
use Rattle.ss_text.specs.Label.{is_table_label}
use Rattle.schema_model.specs.Catalogue.{RelationValue, DatabaseValue, CatalogueValue, database_of, relation_of, attributes_of, rows_of, relations_of, relation_in, row_count}
use Rattle.schema_model.specs.Refusals.{fault, first_of, where_true, no_database, no_relation, database_there, relation_there, no_attribute, attribute_there, last_attribute, arity_differs, no_row, full, too_many, name_twice, illegal_name, first_repeated}
use Rattle.schema_model.specs.declared.change.Change.TheVariants.{Insert, Delete, AddAttribute, DropAttribute, RenameAttribute, CreateRelation, DropRelation, RenameRelation, CreateDatabase, DropDatabase, RenameDatabase}
use Rattle.schema_model.specs.declared.refusal.Refusal.{Refusal}
use Rattle.schema_model.specs.declared.refusal.Which.{Which}
use Rattle.schema_model.specs.declared.refusal.Which.TheVariants.{Databases, Relations, Attributes, Rows}
use Rattle.schema_model.specs.Limits.{most_rows, most_attributes, most_relations, most_databases}

-- of a list of refusals none stands
first_none : (o : Option Refusal) (os : List (Option Refusal)) → first_of (o ∷ os) ≡ None → (o ≡ None) × (first_of os ≡ None)
first_none None os h = (refl, h)
first_none (Some e) os h = absurd (cc)

passed : (b : Bool) (e : Refusal) → where_true b e ≡ None → b ≡ false
passed true e h = absurd (cc)
passed false e h = refl

unnot : (b : Bool) → not b ≡ false → b ≡ true
unnot true h = refl
unnot false h = absurd (cc)

is_there : {A : Type 0} (o : Option A) → is_none o ≡ false → (x : A) × (o ≡ Some x)
is_there None h = absurd (cc)
is_there (Some x) h = (x, refl)

is_absent : {A : Type 0} (o : Option A) → is_some o ≡ false → o ≡ None
is_absent None h = refl
is_absent (Some x) h = absurd (cc)

none_mapped : {A B : Type 0} (f : A → B) (o : Option A) → option_map f o ≡ None → o ≡ None
none_mapped f None h = refl
none_mapped f (Some x) h = absurd (cc)

-- what each says
database_stands : (c : CatalogueValue) (db : Text) → no_database c db ≡ None → (d : DatabaseValue) × (database_of c db ≡ Some d)
database_stands c db h = is_there (database_of c db) (passed (is_none (database_of c db)) _ h)

name_legal : (name : Text) → illegal_name name ≡ None → is_table_label name ≡ true
name_legal name h = unnot (is_table_label name) (passed (not (is_table_label name)) _ h)

database_free : (c : CatalogueValue) (db : Text) → database_there c db ≡ None → database_of c db ≡ None
database_free c db h = is_absent (database_of c db) (passed (is_some (database_of c db)) _ h)

room_for_one : (most count : ℕ) (which : Which) → full most count which ≡ None → count < most
room_for_one most count which h =
    let test : nat_le most count ≡ false = passed (nat_le most count) _ h in
    grind (arith, nat_tests)

not_too_many : (most count : ℕ) (which : Which) → too_many most count which ≡ None → count ≤ most
not_too_many most count which h =
    let test : nat_lt most count ≡ false = passed (nat_lt most count) _ h in
    grind (arith, nat_tests)

-- a database and a relation in it
pub record Standing (c : CatalogueValue) (db rel : Text) : Type 0 where
  pub d : DatabaseValue
  pub r : RelationValue
  pub database : database_of c db ≡ Some d
  pub relation : relation_in rel d ≡ Some r
  pub attributes : attributes_of c db rel ≡ r.attributes
  pub rows : rows_of c db rel ≡ r.rows

relation_stands : (c : CatalogueValue) (db rel : Text) → no_database c db ≡ None → no_relation c db rel ≡ None → Standing c db rel
relation_stands c db rel hd hr =
    let one = database_stands c db hd in
    let two = is_there (relation_of c db rel) (passed (is_none (relation_of c db rel)) _ hr) in
    let there : relation_of c db rel ≡ Some two.0 = two.1 in
    record {
      d = one.0;
      r = two.0;
      database = one.1;
      relation = sym (ap (option_and_then (relation_in rel)) one.1) ∙ there;
      attributes = ap (λ o. option_map_or (λ (r : RelationValue). r.attributes) o []) there;
      rows = ap (λ o. option_map_or (λ (r : RelationValue). r.rows) o []) there;
    }

both_stand : (c : CatalogueValue) (db rel : Text) (os : List (Option Refusal)) → first_of (no_database c db ∷ no_relation c db rel ∷ os) ≡ None → Standing c db rel × (first_of os ≡ None)
both_stand c db rel os h =
    let one = first_none (no_database c db) (no_relation c db rel ∷ os) h in
    let two = first_none (no_relation c db rel) os one.1 in
    (relation_stands c db rel one.0 two.0, two.1)

-- a name that no relation of a database has
relation_free : (c : CatalogueValue) (db to : Text) (d : DatabaseValue) → database_of c db ≡ Some d → relation_there c db to ≡ None → relation_in to d ≡ None
relation_free c db to d there h =
    sym (ap (option_and_then (relation_in to)) there) ∙ is_absent (relation_of c db to) (passed (is_some (relation_of c db to)) _ h)

module _ (c : CatalogueValue) (db rel : Text) where
  pub insert_has : (row : Row) → fault c (Insert db rel row) ≡ None → record { at : Standing c db rel; fits : length row ≡ length at.r.attributes; room : row_count c < most_rows }
  insert_has row h =
      let one = both_stand c db rel (arity_differs c db rel row ∷ full most_rows (row_count c) Rows ∷ []) h in
      let two = first_none (arity_differs c db rel row) (full most_rows (row_count c) Rows ∷ []) one.1 in
      let three = first_none (full most_rows (row_count c) Rows) [] two.1 in
      let same = unnot (length row == length (attributes_of c db rel)) (passed (not (length row == length (attributes_of c db rel))) _ two.0) in
      record {
        at = one.0;
        fits = (Decides-eqb (length row) (length (attributes_of c db rel))).0 same ∙ ap length one.0.attributes;
        room = room_for_one most_rows (row_count c) Rows three.0;
      }

  pub delete_has : (row : Row) → fault c (Delete db rel row) ≡ None → record { at : Standing c db rel; row_there : list_any (row_eq row) at.r.rows ≡ true }
  delete_has row h =
      let one = both_stand c db rel (arity_differs c db rel row ∷ no_row c db rel row ∷ []) h in
      let two = first_none (arity_differs c db rel row) (no_row c db rel row ∷ []) one.1 in
      let three = first_none (no_row c db rel row) [] two.1 in
      record {
        at = one.0;
        row_there = sym (ap (list_any (row_eq row)) one.0.rows) ∙ unnot (list_any (row_eq row) (rows_of c db rel)) (passed (not (list_any (row_eq row) (rows_of c db rel))) _ three.0);
      }

  pub add_has : (name fill : Text) → fault c (AddAttribute db rel name fill) ≡ None → record { at : Standing c db rel; new : is_in name at.r.attributes ≡ false; room : length at.r.attributes < most_attributes }
  add_has name fill h =
      let one = both_stand c db rel (attribute_there c db rel name ∷ full most_attributes (length (attributes_of c db rel)) Attributes ∷ []) h in
      let two = first_none (attribute_there c db rel name) (full most_attributes (length (attributes_of c db rel)) Attributes ∷ []) one.1 in
      let three = first_none (full most_attributes (length (attributes_of c db rel)) Attributes) [] two.1 in
      let room : length (attributes_of c db rel) < most_attributes = room_for_one most_attributes (length (attributes_of c db rel)) Attributes three.0 in
      record {
        at = one.0;
        new = sym (ap (is_in name) one.0.attributes) ∙ passed (is_in name (attributes_of c db rel)) _ two.0;
        room = subst (λ (names : Row). length names < most_attributes) one.0.attributes room;
      }

  name_there : (name : Text) (at : Standing c db rel) → no_attribute c db rel name ≡ None → is_in name at.r.attributes ≡ true
  name_there name at h = sym (ap (is_in name) at.attributes) ∙ unnot (is_in name (attributes_of c db rel)) (passed (not (is_in name (attributes_of c db rel))) _ h)

  pub drop_has : (name : Text) → fault c (DropAttribute db rel name) ≡ None → record { at : Standing c db rel; there : is_in name at.r.attributes ≡ true; more : (length at.r.attributes == 1) ≡ false }
  drop_has name h =
      let one = both_stand c db rel (no_attribute c db rel name ∷ last_attribute c db rel ∷ []) h in
      let two = first_none (no_attribute c db rel name) (last_attribute c db rel ∷ []) one.1 in
      let three = first_none (last_attribute c db rel) [] two.1 in
      record {
        at = one.0;
        there = name_there name one.0 two.0;
        more = sym (ap (λ (names : Row). length names == 1) one.0.attributes) ∙ passed (length (attributes_of c db rel) == 1) _ three.0;
      }

  pub rename_has : (name to : Text) → fault c (RenameAttribute db rel name to) ≡ None → record { at : Standing c db rel; there : is_in name at.r.attributes ≡ true; new : is_in to at.r.attributes ≡ false }
  rename_has name to h =
      let one = both_stand c db rel (no_attribute c db rel name ∷ attribute_there c db rel to ∷ []) h in
      let two = first_none (no_attribute c db rel name) (attribute_there c db rel to ∷ []) one.1 in
      let three = first_none (attribute_there c db rel to) [] two.1 in
      record {
        at = one.0;
        there = name_there name one.0 two.0;
        new = sym (ap (is_in to) one.0.attributes) ∙ passed (is_in to (attributes_of c db rel)) _ three.0;
      }

  pub create_has : (attributes : Row) → fault c (CreateRelation db rel attributes) ≡ None
      → record { d : DatabaseValue; database : database_of c db ≡ Some d; legal : is_table_label rel ≡ true; free : relation_in rel d ≡ None; once : first_repeated attributes ≡ None; room : length d.relations < most_relations; few : length attributes ≤ most_attributes }
  create_has attributes h =
      let last = too_many most_attributes (length attributes) Attributes ∷ [] in
      let one = first_none (no_database c db) (illegal_name rel ∷ relation_there c db rel ∷ name_twice attributes ∷ full most_relations (length (relations_of c db)) Relations ∷ last) h in
      let two = first_none (illegal_name rel) (relation_there c db rel ∷ name_twice attributes ∷ full most_relations (length (relations_of c db)) Relations ∷ last) one.1 in
      let three = first_none (relation_there c db rel) (name_twice attributes ∷ full most_relations (length (relations_of c db)) Relations ∷ last) two.1 in
      let four = first_none (name_twice attributes) (full most_relations (length (relations_of c db)) Relations ∷ last) three.1 in
      let five = first_none (full most_relations (length (relations_of c db)) Relations) last four.1 in
      let six = first_none (too_many most_attributes (length attributes) Attributes) [] five.1 in
      let d = database_stands c db one.0 in
      let there : database_of c db ≡ Some d.0 = d.1 in
      let relations : relations_of c db ≡ d.0.relations = ap (λ o. option_map_or (λ (x : DatabaseValue). x.relations) o []) there in
      let room : length (relations_of c db) < most_relations = room_for_one most_relations (length (relations_of c db)) Relations five.0 in
      record {
        d = d.0;
        database = d.1;
        legal = name_legal rel two.0;
        free = relation_free c db rel d.0 d.1 three.0;
        once = none_mapped _ (first_repeated attributes) four.0;
        room = subst (λ (rs : List RelationValue). length rs < most_relations) relations room;
        few = not_too_many most_attributes (length attributes) Attributes six.0;
      }

  pub drop_relation_has : fault c (DropRelation db rel) ≡ None → Standing c db rel
  drop_relation_has h = (both_stand c db rel [] h).0

  pub rename_relation_has : (to : Text) → fault c (RenameRelation db rel to) ≡ None → record { at : Standing c db rel; legal : is_table_label to ≡ true; free : relation_in to at.d ≡ None }
  rename_relation_has to h =
      let one = first_none (no_database c db) (illegal_name to ∷ no_relation c db rel ∷ relation_there c db to ∷ []) h in
      let two = first_none (illegal_name to) (no_relation c db rel ∷ relation_there c db to ∷ []) one.1 in
      let three = first_none (no_relation c db rel) (relation_there c db to ∷ []) two.1 in
      let four = first_none (relation_there c db to) [] three.1 in
      let at = relation_stands c db rel one.0 three.0 in
      record { at = at; legal = name_legal to two.0; free = relation_free c db to at.d at.database four.0 }

module _ (c : CatalogueValue) (db : Text) where
  pub create_database_has : fault c (CreateDatabase db) ≡ None → record { legal : is_table_label db ≡ true; free : database_of c db ≡ None; room : length c < most_databases }
  create_database_has h =
      let one = first_none (illegal_name db) (database_there c db ∷ full most_databases (length c) Databases ∷ []) h in
      let two = first_none (database_there c db) (full most_databases (length c) Databases ∷ []) one.1 in
      let three = first_none (full most_databases (length c) Databases) [] two.1 in
      record { legal = name_legal db one.0; free = database_free c db two.0; room = room_for_one most_databases (length c) Databases three.0 }

  pub drop_database_has : fault c (DropDatabase db) ≡ None → (d : DatabaseValue) × (database_of c db ≡ Some d)
  drop_database_has h = database_stands c db (first_none (no_database c db) [] h).0

  pub rename_database_has : (to : Text) → fault c (RenameDatabase db to) ≡ None → record { d : DatabaseValue; database : database_of c db ≡ Some d; legal : is_table_label to ≡ true; free : database_of c to ≡ None }
  rename_database_has to h =
      let one = first_none (no_database c db) (illegal_name to ∷ database_there c to ∷ []) h in
      let two = first_none (illegal_name to) (database_there c to ∷ []) one.1 in
      let three = first_none (database_there c to) [] two.1 in
      let d = database_stands c db one.0 in
      record { d = d.0; database = d.1; legal = name_legal to two.0; free = database_free c to three.0 }
