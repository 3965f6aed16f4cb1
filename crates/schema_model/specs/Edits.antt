-- An edit is a change whose places are found and whose memory is taken: what it makes, and what it asks.
use Rattle.std.specs.Prelude.{ℕ, ◌≡◌, ◌<◌, ◌≤◌, ◌+◌, ◌-◌, ⊤, Bool, true, IsTrue, List, [], length, map, drop, insert, remove, slice_index_or}
use Rattle.std.specs.Option.{option_map_or}
use Rattle.ss_text.specs.Texts.{Text, Row}
use Rattle.ss_text.specs.Places.{at_place}
use Rattle.schema_model.specs.Catalogue.{RelationValue, DatabaseValue, CatalogueValue, relation_value, with_row, with_relation_at, database_at, database_of, rows_of, rows_in, row_count}
use Rattle.schema_model.specs.Changes.{after, less_row}
use Rattle.schema_model.specs.ListedRows.{IsNext}
use Rattle.schema_model.specs.Sound.{IsCounted}
use Rattle.schema_model.specs.declared.change.Change.{Change}
use Rattle.schema_model.specs.declared.change.Change.TheVariants.{Insert, Delete, DropRelation, DropDatabase}
use Rattle.schema_model.specs.States.{RelationState, DatabaseState, plain_relation, plain_database, plain_databases, relation_state_at, database_state_at}
use Rattle.schema_model.specs.declared.edit.RelationEdit.{RelationEdit}
use Rattle.schema_model.specs.declared.edit.RelationEdit.TheVariants.{Add, Take, Sheet, Header}
use Rattle.schema_model.specs.declared.edit.DatabaseEdit.{DatabaseEdit}
use Rattle.schema_model.specs.declared.edit.DatabaseEdit.TheVariants as inner
use Rattle.schema_model.specs.declared.edit.CatalogueEdit.{CatalogueEdit}
use Rattle.schema_model.specs.declared.edit.CatalogueEdit.TheVariants as outer

-- a relation: a row more, without the first row that equals one, other attributes and rows, other attributes alone
abbrev pub relation_edited : RelationEdit → RelationValue → RelationValue
relation_edited (Add row) r = with_row row.value r
relation_edited (Take row) r = less_row row r
relation_edited (Sheet attributes rows) r = relation_value r.name attributes rows.items
relation_edited (Header attributes) r = record r { attributes = attributes }

abbrev pub FitsWaiting : RelationEdit → List Row → Type 0
FitsWaiting (Add row) waiting = IsNext row.value waiting
FitsWaiting (Take row) waiting = ⊤
FitsWaiting (Sheet attributes rows) waiting = ⊤
FitsWaiting (Header attributes) waiting = ⊤

-- a row is taken only out of rows that are the relation's own
abbrev pub FitsOwn : RelationEdit → Bool → Type 0
FitsOwn (Add row) own = ⊤
FitsOwn (Take row) own = IsTrue own
FitsOwn (Sheet attributes rows) own = ⊤
FitsOwn (Header attributes) own = ⊤

abbrev pub FitsRelation : RelationEdit → RelationState → Type 0
FitsRelation edit r = FitsWaiting edit r.waiting × FitsOwn edit r.own

-- the rows that wait behind it
abbrev pub waiting_left : RelationEdit → List Row → List Row
waiting_left (Add row) waiting = drop 1 waiting
waiting_left (Take row) waiting = waiting
waiting_left (Sheet attributes rows) waiting = []
waiting_left (Header attributes) waiting = waiting

-- and whether its rows are its own then
abbrev pub own_left : RelationEdit → Bool → Bool
own_left (Add row) own = own
own_left (Take row) own = own
own_left (Sheet attributes rows) own = true
own_left (Header attributes) own = own

-- a database: one relation edited, one more, one less, one at the place of another name
abbrev pub renamed_at : ℕ → ℕ → Text → List RelationValue → List RelationValue
renamed_at place to name rs = insert (remove rs place) to (record (slice_index_or rs place (relation_value [] [] [])) { name = name })

abbrev pub database_edited : DatabaseEdit → DatabaseValue → DatabaseValue
database_edited (inner.At rel edit) d = with_relation_at rel (relation_edited edit) d
database_edited (inner.Put place relation) d = record d { relations = insert d.relations place (plain_relation relation) }
database_edited (inner.Out place) d = record d { relations = remove d.relations place }
database_edited (inner.Rename place to name) d = record d { relations = renamed_at place to name d.relations }

abbrev pub FitsDatabase : DatabaseEdit → DatabaseState → Type 0
FitsDatabase (inner.At rel edit) d = (rel < length d.relations) × FitsRelation edit (relation_state_at rel d)
FitsDatabase (inner.Put place relation) d = (place ≤ length d.relations) × (0 < d.room)
FitsDatabase (inner.Out place) d = place < length d.relations
FitsDatabase (inner.Rename place to name) d = (place < length d.relations) × (to < length d.relations)

-- the rows that wait in its relations, and those that do after an edit of a relation
abbrev pub waits_in : DatabaseState → List (List Row)
waits_in d = map (λ (r : RelationState). r.waiting) d.relations

abbrev pub LeavesWaiting : DatabaseEdit → DatabaseState → DatabaseState → Type 0
LeavesWaiting (inner.At rel edit) old new = waits_in new ≡ at_place rel (waiting_left edit) (waits_in old)
LeavesWaiting edit old new = ⊤

-- whose rows are their own, and whose are after an edit of a relation
abbrev pub own_in : DatabaseState → List Bool
own_in d = map (λ (r : RelationState). r.own) d.relations

abbrev pub LeavesOwn : DatabaseEdit → DatabaseState → DatabaseState → Type 0
LeavesOwn (inner.At rel edit) old new = own_in new ≡ at_place rel (own_left edit) (own_in old)
LeavesOwn edit old new = ⊤

-- and a catalogue
abbrev pub database_renamed_at : ℕ → ℕ → Text → CatalogueValue → CatalogueValue
database_renamed_at place to name c = insert (remove c place) to (record (database_at place c) { name = name })

abbrev pub edited : CatalogueEdit → CatalogueValue → CatalogueValue
edited (outer.At db edit) c = at_place db (database_edited edit) c
edited (outer.Put place database) c = insert c place (plain_database database)
edited (outer.Out place) c = remove c place
edited (outer.Rename place to name) c = database_renamed_at place to name c

-- the databases, with room for so many more
abbrev pub Fits : CatalogueEdit → List DatabaseState → ℕ → Type 0
Fits (outer.At db edit) ds room = (db < length ds) × FitsDatabase edit (database_state_at db ds)
Fits (outer.Put place database) ds room = (place ≤ length ds) × (0 < room)
Fits (outer.Out place) ds room = place < length ds
Fits (outer.Rename place to name) ds room = (place < length ds) × (to < length ds)

-- an edit that makes a change, in these databases and with this room
pub record Makes (ds : List DatabaseState) (room : ℕ) (change : Change) (edit : CatalogueEdit) : Type 0 where
  pub fits : Fits edit ds room
  pub makes : edited edit (plain_databases ds) ≡ after (plain_databases ds) change

-- such an edit, after which the catalogue is sound and has so many rows
pub record IsReady (ds : List DatabaseState) (room : ℕ) (change : Change) (edit : CatalogueEdit) (rows : ℕ) : Type 0 where
  pub makes : Makes ds room change edit
  pub counted : IsCounted (after (plain_databases ds) change) rows

-- how many rows there are after a change that is not refused
abbrev pub rows_after : CatalogueValue → Change → ℕ
rows_after c (Insert db rel row) = row_count c + 1
rows_after c (Delete db rel row) = row_count c - 1
rows_after c (DropRelation db rel) = row_count c - length (rows_of c db rel)
rows_after c (DropDatabase db) = row_count c - option_map_or rows_in (database_of c db) 0
rows_after c change = row_count c
