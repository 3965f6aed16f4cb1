-- A change that is not refused leaves a sound catalogue.
use Rattle.std.proofs.Common.{◌≡◌, ◌<◌, ◌≤◌, ◌+◌, ◌∷◌, ◌++◌, [], ℕ, false, List, Option, Some, None, refl, sym, ap, subst, suc, length, arith, ◌==◌}
use Rattle.std.specs.Prelude.{not, IsTrue, nat_le, sum_by, map, remove}
use Rattle.std.specs.Option.{option_map_or, option_or}
use Rattle.std.specs.List.{AllByRecursion, position_or_len}
use Rattle.std.proofs.lemmas.List.{length-map}
use Rattle.std.proofs.lemmas.Bool.Decides.{nat_tests}
use Rattle.ss_text.specs.Texts.{Text, Row, text_eq}
use Rattle.ss_text.proofs.PlaceLemmas.{length_last}
use Rattle.schema_model.specs.Catalogue.{RelationValue, DatabaseValue, CatalogueValue, relation_value, database_value, relation_name, database_name, database_of, rows_in, row_count, with_row}
use Rattle.schema_model.specs.Sound.{IsHeader, IsRelation, IsDatabase, IsSound}
use Rattle.schema_model.specs.Changes.{after, after_all, at_database, at_relation, at_relation_in, with_relations, less_row, with_attribute, less_attribute, renamed_attribute, placed, without, renamed, placed_database, without_database, renamed_database, is_well_formed}
use Rattle.schema_model.specs.Refusals.{fault, group_fault, first_repeated}
use Rattle.schema_model.specs.declared.change.Change.{Change}
use Rattle.schema_model.specs.declared.refusal.Refusal.{Refusal}
use Rattle.schema_model.specs.declared.change.Change.TheVariants.{Insert, Delete, AddAttribute, DropAttribute, RenameAttribute, CreateRelation, DropRelation, RenameRelation, CreateDatabase, DropDatabase, RenameDatabase}
use Rattle.schema_model.proofs.Kept.{row_fits, no_rows, no_relations}
use Rattle.schema_model.proofs.ChangeLemmas.{row_less, one_row_less}
use Rattle.schema_model.proofs.RelationsKept.{attribute_added, attribute_dropped, attribute_renamed, none_repeated}
use Rattle.schema_model.proofs.NamedLists.{AreNamed, changed, come, gone, held, still_none}
use Rattle.schema_model.proofs.Asks.{Standing, insert_has, delete_has, add_has, drop_has, rename_has, create_has, drop_relation_has, rename_relation_has, create_database_has, drop_database_has, rename_database_has}
use Rattle.schema_model.specs.Limits.{most_rows, most_attributes, most_relations}

named_databases : (c : CatalogueValue) → IsSound c → AreNamed database_name IsDatabase c
named_databases c h = record { names = h.names; each = h.databases }

named_relations : (d : DatabaseValue) → IsDatabase d → AreNamed relation_name IsRelation d.relations
named_relations d h = record { names = h.names; each = h.relations }

pub the_database : (c : CatalogueValue) (db : Text) (d : DatabaseValue) → IsSound c → database_of c db ≡ Some d → IsDatabase d
the_database c db d h there = held (λ (x : DatabaseValue). text_eq db x.name) IsDatabase c d h.databases there

-- one database changed
database_changed : (c : CatalogueValue) (db : Text) (d : DatabaseValue) (f : DatabaseValue → DatabaseValue) → ((x : DatabaseValue) → database_name (f x) ≡ database_name x)
    → IsSound c → database_of c db ≡ Some d → IsDatabase (f d) → rows_in (f d) + row_count c ≤ rows_in d + most_rows → IsSound (at_database db f c)
database_changed c db d f keeps h there sound rows =
    let now = changed database_name IsDatabase rows_in db f c d keeps (named_databases c h) there sound in
    record { names = now.named.names; few = rw now.count h.few; databases = now.named.each; rows = omega (arith, now.sum, rows) }

-- one relation changed
relation_changed : (c : CatalogueValue) (db rel : Text) (at : Standing c db rel) (f : RelationValue → RelationValue) → ((x : RelationValue) → relation_name (f x) ≡ relation_name x)
    → IsSound c → (IsRelation at.r → IsRelation (f at.r)) → length (f at.r).rows + row_count c ≤ length at.r.rows + most_rows → IsSound (at_relation db rel f c)
relation_changed c db rel at f keeps h sound rows =
    let d_sound = the_database c db at.d h at.database in
    let r_sound : IsRelation at.r = held (λ (x : RelationValue). text_eq rel x.name) IsRelation at.d.relations at.r d_sound.relations at.relation in
    let now = changed relation_name IsRelation (λ (r : RelationValue). length r.rows) rel f at.d.relations at.r keeps (named_relations at.d d_sound) at.relation (sound r_sound) in
    database_changed c db at.d (at_relation_in rel f) (λ x. refl) h at.database
    (record { names = now.named.names; few = rw now.count d_sound.few; relations = now.named.each })
    (omega (arith, now.sum, rows))

-- the relations of one database changed, with as many rows as before
relations_changed : (c : CatalogueValue) (db : Text) (d : DatabaseValue) (f : List RelationValue → List RelationValue) → IsSound c → database_of c db ≡ Some d
    → AreNamed relation_name IsRelation (f d.relations) → length (f d.relations) ≤ most_relations → sum_by (λ (r : RelationValue). length r.rows) (f d.relations) ≤ rows_in d → IsSound (at_database db (with_relations f) c)
relations_changed c db d f h there named few rows =
    database_changed c db d (with_relations f) (λ x. refl) h there (record { names = named.names; few = few; relations = named.each }) (omega (arith, rows, h.rows))

-- a new relation has a header
header_of : (attributes : Row) → IsTrue (nat_le 1 (length attributes)) → length attributes ≤ most_attributes → first_repeated attributes ≡ None → IsHeader attributes
header_of attributes some few once = record { some = at_least some; few = few; distinct = none_repeated attributes once }
  where
    at_least : IsTrue (nat_le 1 (length attributes)) → 1 ≤ length attributes
    at_least h = grind (arith, nat_tests)

more_than_one : (n : ℕ) → 1 ≤ n → (n == 1) ≡ false → 1 < n
more_than_one n some other = grind (arith, nat_tests)

-- each change by itself
module _ (c : CatalogueValue) (h : IsSound c) where
  inserted : (db rel : Text) (row : Row) → fault c (Insert db rel row) ≡ None → IsSound (at_relation db rel (with_row row) c)
  inserted db rel row none =
      let has = insert_has c db rel row none in
      let more : length (has.at.r.rows ++ row ∷ []) ≡ suc (length has.at.r.rows) = length_last has.at.r.rows row in
      relation_changed c db rel has.at (with_row row) (λ x. refl) h (λ r. row_fits has.at.r row r has.fits) (omega (arith, more, has.room))

  deleted : (db rel : Text) (row : Row) → fault c (Delete db rel row) ≡ None → IsSound (at_relation db rel (less_row row) c)
  deleted db rel row none =
      let has = delete_has c db rel row none in
      let less = one_row_less has.at.r row has.row_there in
      relation_changed c db rel has.at (less_row row) (λ x. refl) h (λ r. row_less has.at.r row r) (omega (arith, less, h.rows))

  added : (db rel name fill : Text) → fault c (AddAttribute db rel name fill) ≡ None → IsSound (at_relation db rel (with_attribute name fill) c)
  added db rel name fill none =
      let has = add_has c db rel name fill none in
      let same : length (map (λ (row : Row). row ++ fill ∷ []) has.at.r.rows) ≡ length has.at.r.rows = length-map has.at.r.rows (λ (row : Row). row ++ fill ∷ []) in
      relation_changed c db rel has.at (with_attribute name fill) (λ x. refl) h (λ r. attribute_added has.at.r name fill r has.new has.room) (omega (arith, same, h.rows))

  dropped : (db rel name : Text) → fault c (DropAttribute db rel name) ≡ None → IsSound (at_relation db rel (less_attribute name) c)
  dropped db rel name none =
      let has = drop_has c db rel name none in
      let i = position_or_len (text_eq name) has.at.r.attributes in
      let same : length (map (λ (row : Row). remove row i) has.at.r.rows) ≡ length has.at.r.rows = length-map has.at.r.rows (λ (row : Row). remove row i) in
      relation_changed c db rel has.at (less_attribute name) (λ x. refl) h (λ r. attribute_dropped has.at.r name r has.there (more_than_one (length has.at.r.attributes) r.header.some has.more)) (omega (arith, same, h.rows))

  attribute_named : (db rel name to : Text) → fault c (RenameAttribute db rel name to) ≡ None → IsSound (at_relation db rel (renamed_attribute name to) c)
  attribute_named db rel name to none =
      let has = rename_has c db rel name to none in
      relation_changed c db rel has.at (renamed_attribute name to) (λ x. refl) h (λ r. attribute_renamed has.at.r name to r has.new) (omega (arith, h.rows))

  created : (db rel : Text) (attributes : Row) → IsTrue (nat_le 1 (length attributes)) → fault c (CreateRelation db rel attributes) ≡ None → IsSound (at_database db (with_relations (placed (relation_value rel attributes []))) c)
  created db rel attributes some none =
      let has = create_has c db rel attributes none in
      let d = the_database c db has.d h has.database in
      let now = come relation_name IsRelation (λ (r : RelationValue). length r.rows) (relation_value rel attributes []) has.d.relations (named_relations has.d d) has.free has.legal (no_rows rel attributes (header_of attributes some has.few has.once)) in
      relations_changed c db has.d (placed (relation_value rel attributes [])) h has.database now.named (omega (arith, now.count, has.room)) (omega (arith, now.sum))

  relation_dropped : (db rel : Text) → fault c (DropRelation db rel) ≡ None → IsSound (at_database db (with_relations (without rel)) c)
  relation_dropped db rel none =
      let at = drop_relation_has c db rel none in
      let d = the_database c db at.d h at.database in
      let now = gone relation_name IsRelation (λ (r : RelationValue). length r.rows) rel at.d.relations at.r (named_relations at.d d) at.relation in
      relations_changed c db at.d (without rel) h at.database now.named (omega (arith, now.count, d.few)) (omega (arith, now.sum))

  relation_named : (db rel to : Text) → fault c (RenameRelation db rel to) ≡ None → IsSound (at_database db (with_relations (renamed rel to)) c)
  relation_named db rel to none =
      let has = rename_relation_has c db rel to none in
      let d = the_database c db has.at.d h has.at.database in
      let r : IsRelation has.at.r = held (λ (x : RelationValue). text_eq rel x.name) IsRelation has.at.d.relations has.at.r d.relations has.at.relation in
      let less = gone relation_name IsRelation (λ (r : RelationValue). length r.rows) rel has.at.d.relations has.at.r (named_relations has.at.d d) has.at.relation in
      let free = still_none (λ (x : RelationValue). text_eq to x.name) (λ (x : RelationValue). not (text_eq rel x.name)) has.at.d.relations has.free in
      let new : RelationValue = relation_value to has.at.r.attributes has.at.r.rows in
      let now = come relation_name IsRelation (λ (r : RelationValue). length r.rows) new (without rel has.at.d.relations) less.named free has.legal (record { header = r.header; fits = r.fits }) in
      let is : renamed rel to has.at.d.relations ≡ placed new (without rel has.at.d.relations) = ap (λ o. option_map_or (λ (r : RelationValue). placed (record r { name = to }) (without rel has.at.d.relations)) o has.at.d.relations) has.at.relation in
      relations_changed c db has.at.d (renamed rel to) h has.at.database (subst (AreNamed relation_name IsRelation) (sym is) now.named)
      (rw is (omega (arith, now.count, less.count, d.few))) (rw is (omega (arith, now.sum, less.sum)))

  database_created : (db : Text) → fault c (CreateDatabase db) ≡ None → IsSound (placed_database (database_value db []) c)
  database_created db none =
      let has = create_database_has c db none in
      let now = come database_name IsDatabase rows_in (database_value db []) c (named_databases c h) has.free has.legal (no_relations db) in
      record { names = now.named.names; few = omega (arith, now.count, has.room); databases = now.named.each; rows = omega (arith, now.sum, h.rows) }

  database_dropped : (db : Text) → fault c (DropDatabase db) ≡ None → IsSound (without_database db c)
  database_dropped db none =
      let has = drop_database_has c db none in
      let now = gone database_name IsDatabase rows_in db c has.0 (named_databases c h) has.1 in
      record { names = now.named.names; few = omega (arith, now.count, h.few); databases = now.named.each; rows = omega (arith, now.sum, h.rows) }

  database_named : (db to : Text) → fault c (RenameDatabase db to) ≡ None → IsSound (renamed_database db to c)
  database_named db to none =
      let has = rename_database_has c db to none in
      let d = the_database c db has.d h has.database in
      let less = gone database_name IsDatabase rows_in db c has.d (named_databases c h) has.database in
      let free = still_none (λ (x : DatabaseValue). text_eq to x.name) (λ (x : DatabaseValue). not (text_eq db x.name)) c has.free in
      let new : DatabaseValue = database_value to has.d.relations in
      let now = come database_name IsDatabase rows_in new (without_database db c) less.named free has.legal (record { names = d.names; few = d.few; relations = d.relations }) in
      let is : renamed_database db to c ≡ placed_database new (without_database db c) = ap (λ o. option_map_or (λ (d : DatabaseValue). placed_database (record d { name = to }) (without_database db c)) o c) has.database in
      rw is (record { names = now.named.names; few = omega (arith, now.count, less.count, h.few); databases = now.named.each; rows = omega (arith, now.sum, less.sum, h.rows) })

-- all eleven
pub sound_after : (c : CatalogueValue) (g : Change) → IsSound c → IsTrue (is_well_formed g) → fault c g ≡ None → IsSound (after c g)
sound_after c (Insert db rel row) h formed none = inserted c h db rel row none
sound_after c (Delete db rel row) h formed none = deleted c h db rel row none
sound_after c (AddAttribute db rel name fill) h formed none = added c h db rel name fill none
sound_after c (DropAttribute db rel name) h formed none = dropped c h db rel name none
sound_after c (RenameAttribute db rel name to) h formed none = attribute_named c h db rel name to none
sound_after c (CreateRelation db rel attributes) h formed none = created c h db rel attributes formed none
sound_after c (DropRelation db rel) h formed none = relation_dropped c h db rel none
sound_after c (RenameRelation db rel to) h formed none = relation_named c h db rel to none
sound_after c (CreateDatabase db) h formed none = database_created c h db none
sound_after c (DropDatabase db) h formed none = database_dropped c h db none
sound_after c (RenameDatabase db to) h formed none = database_named c h db to none

-- and one after another
pub sound_after_all : (c : CatalogueValue) (gs : List Change) → IsSound c → AllByRecursion (λ g. IsTrue (is_well_formed g)) gs → group_fault c gs ≡ None → IsSound (after_all c gs)
sound_after_all c [] h formed none = h
sound_after_all c (g ∷ gs) h formed none =
    let parts = first_none (fault c g) (group_fault (after c g) gs) none in
    sound_after_all (after c g) gs (sound_after c g h formed.0 parts.0) formed.1 parts.1
  where
    first_none : (a b : Option Refusal) → option_or a b ≡ None → (a ≡ None) × (b ≡ None)
    first_none None b h = (refl, h)
    first_none (Some e) b h = absurd (cc)
