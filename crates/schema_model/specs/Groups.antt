-- Changes that are made together, and how they wait.
use Rattle.std.specs.Prelude.{ℕ, ◌≡◌, ◌<◌, ◌+◌, ◌-◌, ⊤, Bool, true, false, IsTrue, None, List, [], ◌∷◌, length, map, reverse, slice_index_or}
use Rattle.std.specs.List.{AllByRecursion}
use Rattle.ss_text.specs.Texts.{Text, Row}
use Rattle.ss_text.specs.Places.{at_place}
use Rattle.schema_model.specs.Catalogue.{DatabaseValue, CatalogueValue, relation_names, database_at, row_count, with_relation_at}
use Rattle.schema_model.specs.Changes.{after, after_all}
use Rattle.schema_model.specs.Refusals.{fault}
use Rattle.schema_model.specs.Sound.{IsSound, IsCounted}
use Rattle.schema_model.specs.States.{DatabaseState, plain_databases}
use Rattle.schema_model.specs.Edits.{relation_edited, FitsWaiting, FitsOwn, waiting_left, waits_in, own_in}
use Rattle.schema_model.specs.declared.change.Change.{Change}
use Rattle.schema_model.specs.declared.change.Change.TheVariants.{Insert, Delete}
use Rattle.schema_model.specs.declared.edit.RelationEdit.{RelationEdit}
use Rattle.schema_model.specs.declared.edit.RelationEdit.TheVariants.{Add, Take, Sheet, Header}
use Rattle.schema_model.specs.declared.edit.RowEdit.{RowEdit}
use Rattle.schema_model.specs.declared.edit.GroupEdit.{GroupEdit}
use Rattle.schema_model.specs.declared.edit.GroupEdit.TheVariants as made

-- whether a change puts a row last or takes one out
abbrev pub is_of_row : Change → Bool
is_of_row (Insert db rel row) = true
is_of_row (Delete db rel row) = true
is_of_row change = false

-- the names of a database and of its relations, which such changes leave
abbrev pub named : DatabaseValue → Text × List Text
named d = (d.name, relation_names d)

abbrev pub all_named : CatalogueValue → List (Text × List Text)
all_named c = map named c

-- the rows that wait in all relations, by the places of database and relation
abbrev pub all_waits : List DatabaseState → List (List (List Row))
all_waits ds = map waits_in ds

abbrev pub waits_at : ℕ → ℕ → List (List (List Row)) → List Row
waits_at db rel waits = slice_index_or (slice_index_or waits db []) rel []

-- whose rows are their own, by the same places; and that those stay so
abbrev pub all_own : List DatabaseState → List (List Bool)
all_own ds = map own_in ds

abbrev pub own_at : ℕ → ℕ → List (List Bool) → Bool
own_at db rel own = slice_index_or (slice_index_or own db []) rel false

abbrev pub KeepsOwn : List (List Bool) → List (List Bool) → Type 0
KeepsOwn own later = (db rel : ℕ) → IsTrue (own_at db rel own) → IsTrue (own_at db rel later)

-- the catalogue, the rows that wait and the number of rows after an edit
abbrev pub row_edited : RowEdit → CatalogueValue → CatalogueValue
row_edited e c = at_place e.db (with_relation_at e.rel (relation_edited e.edit)) c

abbrev pub all_left : RowEdit → List (List (List Row)) → List (List (List Row))
all_left e waits = at_place e.db (at_place e.rel (waiting_left e.edit)) waits

abbrev pub rows_edited : RelationEdit → ℕ → ℕ
rows_edited (Add row) rows = rows + 1
rows_edited (Take row) rows = rows - 1
rows_edited (Sheet attributes of) rows = rows
rows_edited (Header attributes) rows = rows

-- an edit of a relation that is there, which leaves a sound catalogue
pub record IsRowEdit (c : CatalogueValue) (e : RowEdit) : Type 0 where
  pub database : e.db < length c
  pub relation : e.rel < length (database_at e.db c).relations
  pub counted : IsCounted (row_edited e c) (rows_edited e.edit (row_count c))

-- an edit that makes a change of a row in each catalogue of these names that does not refuse it
pub record MakesRow (c : CatalogueValue) (change : Change) (e : RowEdit) : Type 0 where
  pub edits : (later : CatalogueValue) → all_named c ≡ all_named later → IsSound later → fault later change ≡ None → IsRowEdit later e
  pub makes : (later : CatalogueValue) → all_named c ≡ all_named later → IsSound later → fault later change ≡ None → row_edited e later ≡ after later change

-- edits that are made one after another: each of what those before it leave, and so its waiting row
abbrev pub AreRowEdits : List RowEdit → CatalogueValue → Type 0
AreRowEdits [] c = ⊤
AreRowEdits (e ∷ es) c = IsRowEdit c e × AreRowEdits es (row_edited e c)

abbrev pub all_edited : List RowEdit → CatalogueValue → CatalogueValue
all_edited [] c = c
all_edited (e ∷ es) c = all_edited es (row_edited e c)

abbrev pub AreWaiting : List RowEdit → List (List (List Row)) → Type 0
AreWaiting [] waits = ⊤
AreWaiting (e ∷ es) waits = FitsWaiting e.edit (waits_at e.db e.rel waits) × AreWaiting es (all_left e waits)

-- edits of which each finds rows that are the relation's own, where it takes one out
abbrev pub FindsOwn : List (List Bool) → RowEdit → Type 0
FindsOwn own e = FitsOwn e.edit (own_at e.db e.rel own)

abbrev pub AreOwn : List RowEdit → List (List Bool) → Type 0
AreOwn es own = AllByRecursion (FindsOwn own) es

-- edits, the last of a list first, that make these changes
pub record AreReady (ds : List DatabaseState) (changes : List Change) (edits : List RowEdit) : Type 0 where
  pub edits_are : AreRowEdits (reverse edits) (plain_databases ds)
  pub makes : all_edited (reverse edits) (plain_databases ds) ≡ after_all (plain_databases ds) changes
  pub waits : AreWaiting (reverse edits) (all_waits ds)
  pub own : AreOwn (reverse edits) (all_own ds)

-- databases in which changes were made, of which this is left
abbrev pub IsMade : CatalogueValue → GroupEdit → Type 0
IsMade c (made.Rows edits) = ⊥
IsMade c (made.Whole databases rows) = IsCounted (plain_databases databases.items) rows × (plain_databases databases.items ≡ c)

-- a group, in place or in a copy
abbrev pub IsGroup : List DatabaseState → List Change → GroupEdit → Type 0
IsGroup ds changes (made.Rows edits) = AreReady ds changes edits.items
IsGroup ds changes (made.Whole databases rows) = IsMade (after_all (plain_databases ds) changes) (made.Whole databases rows)
