-- How many rows there are after a change that is not refused.
use Rattle.std.proofs.Common.{◌≡◌, ◌≤◌, ◌+◌, ◌-◌, ◌∷◌, ◌++◌, [], List, Some, None, refl, ap, length, map, arith}
use Rattle.std.specs.Prelude.{not, remove}
use Rattle.std.specs.Option.{option_map_or}
use Rattle.std.specs.List.{AllByRecursion, position_or_len}
use Rattle.std.proofs.lemmas.List.{length-map}
use Rattle.ss_text.specs.Texts.{Text, Row, text_eq}
use Rattle.ss_text.proofs.PlaceLemmas.{length_last}
use Rattle.schema_model.specs.Catalogue.{RelationValue, DatabaseValue, CatalogueValue, relation_value, database_value, relation_name, database_name, database_of, rows_of, rows_in, row_count, with_row}
use Rattle.schema_model.specs.Sound.{AreNames, IsSound}
use Rattle.schema_model.specs.Changes.{after, at_database, at_relation, at_relation_in, with_relations, less_row, with_attribute, less_attribute, renamed_attribute, placed, without, renamed, placed_database, without_database, renamed_database}
use Rattle.schema_model.specs.Edits.{rows_after}
use Rattle.schema_model.specs.Refusals.{fault}
use Rattle.schema_model.specs.declared.change.Change.{Change}
use Rattle.schema_model.specs.declared.change.Change.TheVariants.{Insert, Delete, AddAttribute, DropAttribute, RenameAttribute, CreateRelation, DropRelation, RenameRelation, CreateDatabase, DropDatabase, RenameDatabase}
use Rattle.schema_model.proofs.ChangeLemmas.{one_row_less}
use Rattle.schema_model.proofs.NamedLists.{AreNamed, changed, come, gone, still_none}
use Rattle.schema_model.proofs.SoundAfter.{the_database}
use Rattle.schema_model.proofs.Asks.{Standing, insert_has, delete_has, add_has, drop_has, rename_has, create_has, drop_relation_has, rename_relation_has, create_database_has, drop_database_has, rename_database_has}

-- names alone, with no fact of each thing
all_stand : {A : Type 0} (xs : List A) → AllByRecursion (λ (x : A). Unit {0}) xs
all_stand [] = tt
all_stand (x ∷ xs) = (tt, all_stand xs)

named : {A : Type 0} (key : A → Text) (xs : List A) → AreNames (map key xs) → AreNamed key (λ x. Unit {0}) xs
named key xs h = record { names = h; each = all_stand xs }

module _ (c : CatalogueValue) (h : IsSound c) where
  databases_named : AreNamed database_name (λ x. Unit {0}) c
  databases_named = named database_name c h.names

  relations_named : (db : Text) (d : DatabaseValue) → database_of c db ≡ Some d → AreNamed relation_name (λ x. Unit {0}) d.relations
  relations_named db d there = named relation_name d.relations (the_database c db d h there).names

  -- one database and one relation changed
  database_counted : (db : Text) (d : DatabaseValue) (f : DatabaseValue → DatabaseValue) → ((x : DatabaseValue) → database_name (f x) ≡ database_name x) → database_of c db ≡ Some d → row_count (at_database db f c) + rows_in d ≡ row_count c + rows_in (f d)
  database_counted db d f keeps there = (changed database_name (λ x. Unit {0}) rows_in db f c d keeps databases_named there tt).sum

  relation_counted : (db rel : Text) (at : Standing c db rel) (f : RelationValue → RelationValue) → ((x : RelationValue) → relation_name (f x) ≡ relation_name x) → row_count (at_relation db rel f c) + length at.r.rows ≡ row_count c + length (f at.r).rows
  relation_counted db rel at f keeps =
      let inner = (changed relation_name (λ x. Unit {0}) (λ (r : RelationValue). length r.rows) rel f at.d.relations at.r keeps (relations_named db at.d at.database) at.relation tt).sum in
      let outer = database_counted db at.d (at_relation_in rel f) (λ x. refl) at.database in
      omega (arith, inner, outer)

  -- each change by itself
  inserted : (db rel : Text) (row : Row) → fault c (Insert db rel row) ≡ None → row_count (at_relation db rel (with_row row) c) ≡ row_count c + 1
  inserted db rel row none =
      let has = insert_has c db rel row none in
      let now = relation_counted db rel has.at (with_row row) (λ x. refl) in
      let more = length_last has.at.r.rows row in
      omega (arith, now, more)

  deleted : (db rel : Text) (row : Row) → fault c (Delete db rel row) ≡ None → row_count (at_relation db rel (less_row row) c) ≡ row_count c - 1
  deleted db rel row none =
      let has = delete_has c db rel row none in
      let now = relation_counted db rel has.at (less_row row) (λ x. refl) in
      let less = one_row_less has.at.r row has.row_there in
      omega (arith, now, less)

  added : (db rel name fill : Text) → fault c (AddAttribute db rel name fill) ≡ None → row_count (at_relation db rel (with_attribute name fill) c) ≡ row_count c
  added db rel name fill none =
      let has = add_has c db rel name fill none in
      let now = relation_counted db rel has.at (with_attribute name fill) (λ x. refl) in
      let same = length-map has.at.r.rows (λ (row : Row). row ++ fill ∷ []) in
      omega (arith, now, same)

  dropped : (db rel name : Text) → fault c (DropAttribute db rel name) ≡ None → row_count (at_relation db rel (less_attribute name) c) ≡ row_count c
  dropped db rel name none =
      let has = drop_has c db rel name none in
      let i = position_or_len (text_eq name) has.at.r.attributes in
      let now = relation_counted db rel has.at (less_attribute name) (λ x. refl) in
      let same = length-map has.at.r.rows (λ (row : Row). remove row i) in
      omega (arith, now, same)

  attribute_named : (db rel name to : Text) → fault c (RenameAttribute db rel name to) ≡ None → row_count (at_relation db rel (renamed_attribute name to) c) ≡ row_count c
  attribute_named db rel name to none =
      let has = rename_has c db rel name to none in
      let now = relation_counted db rel has.at (renamed_attribute name to) (λ x. refl) in
      omega (arith, now)

  created : (db rel : Text) (attributes : Row) → fault c (CreateRelation db rel attributes) ≡ None → row_count (at_database db (with_relations (placed (relation_value rel attributes []))) c) ≡ row_count c
  created db rel attributes none =
      let has = create_has c db rel attributes none in
      let now = (come relation_name (λ x. Unit {0}) (λ (r : RelationValue). length r.rows) (relation_value rel attributes []) has.d.relations (relations_named db has.d has.database) has.free has.legal tt).sum in
      let all = database_counted db has.d (with_relations (placed (relation_value rel attributes []))) (λ x. refl) has.database in
      omega (arith, now, all)

  relation_dropped : (db rel : Text) → fault c (DropRelation db rel) ≡ None → row_count (at_database db (with_relations (without rel)) c) ≡ row_count c - length (rows_of c db rel)
  relation_dropped db rel none =
      let at = drop_relation_has c db rel none in
      let now = (gone relation_name (λ x. Unit {0}) (λ (r : RelationValue). length r.rows) rel at.d.relations at.r (relations_named db at.d at.database) at.relation).sum in
      let all = database_counted db at.d (with_relations (without rel)) (λ x. refl) at.database in
      let rows : length (rows_of c db rel) ≡ length at.r.rows = ap length at.rows in
      omega (arith, now, all, rows)

  relation_moved : (db rel to : Text) → fault c (RenameRelation db rel to) ≡ None → row_count (at_database db (with_relations (renamed rel to)) c) ≡ row_count c
  relation_moved db rel to none =
      let has = rename_relation_has c db rel to none in
      let rs = has.at.d.relations in
      let new : RelationValue = relation_value to has.at.r.attributes has.at.r.rows in
      let less = gone relation_name (λ x. Unit {0}) (λ (r : RelationValue). length r.rows) rel rs has.at.r (relations_named db has.at.d has.at.database) has.at.relation in
      let free = still_none (λ (x : RelationValue). text_eq to x.name) (λ (x : RelationValue). not (text_eq rel x.name)) rs has.free in
      let now = (come relation_name (λ x. Unit {0}) (λ (r : RelationValue). length r.rows) new (without rel rs) less.named free has.legal tt).sum in
      let is : renamed rel to rs ≡ placed new (without rel rs) = ap (λ o. option_map_or (λ (r : RelationValue). placed (record r { name = to }) (without rel rs)) o rs) has.at.relation in
      let all = database_counted db has.at.d (with_relations (renamed rel to)) (λ x. refl) has.at.database in
      let sums = less.sum in
      let there = rw is at all in
      omega (arith, now, sums, there)

  database_created : (db : Text) → fault c (CreateDatabase db) ≡ None → row_count (placed_database (database_value db []) c) ≡ row_count c
  database_created db none =
      let has = create_database_has c db none in
      let now = (come database_name (λ x. Unit {0}) rows_in (database_value db []) c databases_named has.free has.legal tt).sum in
      omega (arith, now)

  database_dropped : (db : Text) → fault c (DropDatabase db) ≡ None → row_count (without_database db c) ≡ row_count c - option_map_or rows_in (database_of c db) 0
  database_dropped db none =
      let has = drop_database_has c db none in
      let now = (gone database_name (λ x. Unit {0}) rows_in db c has.0 databases_named has.1).sum in
      let there : database_of c db ≡ Some has.0 = has.1 in
      let rows : option_map_or rows_in (database_of c db) 0 ≡ rows_in has.0 = ap (λ o. option_map_or rows_in o 0) there in
      omega (arith, now, rows)

  database_moved : (db to : Text) → fault c (RenameDatabase db to) ≡ None → row_count (renamed_database db to c) ≡ row_count c
  database_moved db to none =
      let has = rename_database_has c db to none in
      let new : DatabaseValue = database_value to has.d.relations in
      let less = gone database_name (λ x. Unit {0}) rows_in db c has.d databases_named has.database in
      let free = still_none (λ (x : DatabaseValue). text_eq to x.name) (λ (x : DatabaseValue). not (text_eq db x.name)) c has.free in
      let now = (come database_name (λ x. Unit {0}) rows_in new (without_database db c) less.named free has.legal tt).sum in
      let is : renamed_database db to c ≡ placed_database new (without_database db c) = ap (λ o. option_map_or (λ (d : DatabaseValue). placed_database (record d { name = to }) (without_database db c)) o c) has.database in
      let sums = less.sum in
      rw is (omega (arith, now, sums))

  -- what is taken away is there
  pub row_within : (db rel : Text) (row : Row) → fault c (Delete db rel row) ≡ None → 1 ≤ row_count c
  row_within db rel row none =
      let has = delete_has c db rel row none in
      let now = relation_counted db rel has.at (less_row row) (λ x. refl) in
      let less = one_row_less has.at.r row has.row_there in
      omega (arith, now, less)

  pub relation_within : (db rel : Text) → fault c (DropRelation db rel) ≡ None → length (rows_of c db rel) ≤ row_count c
  relation_within db rel none =
      let at = drop_relation_has c db rel none in
      let now = (gone relation_name (λ x. Unit {0}) (λ (r : RelationValue). length r.rows) rel at.d.relations at.r (relations_named db at.d at.database) at.relation).sum in
      let all = database_counted db at.d (with_relations (without rel)) (λ x. refl) at.database in
      let rows : length (rows_of c db rel) ≡ length at.r.rows = ap length at.rows in
      omega (arith, now, all, rows)

  pub database_within : (db : Text) (d : DatabaseValue) → database_of c db ≡ Some d → rows_in d ≤ row_count c
  database_within db d there =
      let now = (gone database_name (λ x. Unit {0}) rows_in db c d databases_named there).sum in
      omega (arith, now)

  pub dropped_within : (db : Text) → fault c (DropDatabase db) ≡ None → option_map_or rows_in (database_of c db) 0 ≤ row_count c
  dropped_within db none =
      let has = drop_database_has c db none in
      let there : database_of c db ≡ Some has.0 = has.1 in
      rw there (database_within db has.0 has.1)

-- all eleven
pub count_after : (c : CatalogueValue) (g : Change) → IsSound c → fault c g ≡ None → row_count (after c g) ≡ rows_after c g
count_after c (Insert db rel row) h none = inserted c h db rel row none
count_after c (Delete db rel row) h none = deleted c h db rel row none
count_after c (AddAttribute db rel name fill) h none = added c h db rel name fill none
count_after c (DropAttribute db rel name) h none = dropped c h db rel name none
count_after c (RenameAttribute db rel name to) h none = attribute_named c h db rel name to none
count_after c (CreateRelation db rel attributes) h none = created c h db rel attributes none
count_after c (DropRelation db rel) h none = relation_dropped c h db rel none
count_after c (RenameRelation db rel to) h none = relation_moved c h db rel to none
count_after c (CreateDatabase db) h none = database_created c h db none
count_after c (DropDatabase db) h none = database_dropped c h db none
count_after c (RenameDatabase db to) h none = database_moved c h db to none
