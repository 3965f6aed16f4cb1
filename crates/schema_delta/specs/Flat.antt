-- The flat rows that a declaration contributes.
use Rattle.std.specs.Prelude.{Bool, true, false, cond, ◌&&◌, List, [], ◌∷◌, ◌++◌, map}
use Rattle.std.specs.List.{flat_map}
use Rattle.ss_text.specs.Texts.{Text, Row, text_eq}
use Rattle.view_def.specs.declared.typed.Place.{Place}
use Rattle.view_def.specs.declared.typed.Place.TheVariants.{Fixed, Var}
use Rattle.view_def.specs.declared.typed.Range.{Range}
use Rattle.view_def.specs.declared.typed.Range.TheVariants as range
use Rattle.schema_model.specs.Catalogue.{RelationValue, DatabaseValue, CatalogueValue}
use Rattle.schema_model.specs.Changes.{after, after_all}
use Rattle.schema_model.specs.declared.change.Change.{Change}
use Rattle.operator_law.specs.declared.delta.Signed.{Signed}
use Rattle.operator_law.specs.Bags.{MovesBag}
use Rattle.fold_op.specs.declared.change.SheetChange.{SheetChange}
use Rattle.fold_op.specs.declared.change.SheetChange.TheVariants.{Born, Gone}
use Rattle.fold_op.specs.Sheets.{SheetValue, sheet_after}
use Rattle.unite_op.specs.NamedThings.{rows_behind}
use Rattle.fold_op.specs.Flat.{pick_value, fold_value}
use Rattle.schema_delta.specs.declared.spec.FlatSpec.{FlatSpec}

-- a constant place keeps only its own name
abbrev pub keeps : Place → Text → Bool
keeps (Fixed t) name = text_eq t name
keeps (Var k) name = true

-- whether a range goes over a relation, by the name of its database and its own
abbrev pub goes_over : Range → Text → Text → Bool
goes_over range.Databases db rel = false
goes_over (range.Relations p) db rel = keeps p db
goes_over (range.Attributes p q) db rel = keeps p db && keeps q rel
goes_over (range.Tuples p q) db rel = keeps p db && keeps q rel
goes_over (range.Values p q a) db rel = keeps p db && keeps q rel
goes_over (range.Alias k a) db rel = false

-- for every row, the name and the cell of the attribute that a place names, or of each attribute
abbrev pub values_of : Place → SheetValue → List Row
values_of (Fixed a) x = rows_behind (a ∷ []) (pick_value (a ∷ []) x)
values_of (Var k) x = fold_value [] x

-- each name as a row
abbrev pub names_of : Row → List Row
names_of attributes = map (λ a. a ∷ []) attributes

-- what a relation with these attributes and rows contributes behind the names
abbrev pub inside : Range → Row → Bool → SheetValue → List Row
inside range.Databases wanted folded x = []
inside (range.Relations p) wanted folded x = [] ∷ []
inside (range.Attributes p q) wanted folded x = names_of x.0
inside (range.Tuples p q) wanted folded x = cond folded (fold_value wanted x) (pick_value wanted x)
inside (range.Values p q a) wanted folded x = values_of a x
inside (range.Alias k a) wanted folded x = []

abbrev pub sheet_of : RelationValue → SheetValue
sheet_of r = (r.attributes, r.rows)

-- what a relation of a database contributes, behind both names
abbrev pub part : FlatSpec → Text → RelationValue → List Row
part s db r = cond (goes_over s.range db r.name) (rows_behind (db ∷ r.name ∷ []) (inside s.range s.wanted s.folded (sheet_of r))) []

-- the name of a database, for the range of these
abbrev pub own : Range → Text → List Row
own range.Databases db = (db ∷ []) ∷ []
own range db = []

-- what a database contributes, its relations in order
abbrev pub whole : FlatSpec → DatabaseValue → List Row
whole s d = own s.range d.name ++ flat_map (part s d.name) d.relations

-- the flat rows of a catalogue
abbrev pub flat : CatalogueValue → FlatSpec → List Row
flat c s = flat_map (whole s) c

-- a relation with its sheet changed
abbrev pub changed_relation : SheetChange → RelationValue → RelationValue
changed_relation g r = record r { attributes = (sheet_after g (sheet_of r)).0; rows = (sheet_after g (sheet_of r)).1 }

-- the sheet is there before and after
abbrev pub is_inner : SheetChange → Bool
is_inner (Born attributes) = false
is_inner Gone = false
is_inner g = true

-- the moves take the flat rows of a catalogue to those of another
abbrev pub MovesBetween : CatalogueValue → CatalogueValue → FlatSpec → List Signed → Type 0
MovesBetween c e s ms = MovesBag (flat c s) ms (flat e s)

-- to those after a change, and to those after changes that are made one after another
abbrev pub MovesFlat : CatalogueValue → Change → FlatSpec → List Signed → Type 0
MovesFlat c g s ms = MovesBetween c (after c g) s ms

abbrev pub MovesGroup : CatalogueValue → List Change → FlatSpec → List Signed → Type 0
MovesGroup c gs s ms = MovesBetween c (after_all c gs) s ms
