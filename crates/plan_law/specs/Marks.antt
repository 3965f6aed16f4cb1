-- Flat rows that come from the row that an insert puts or a delete takes.
use Rattle.std.specs.Prelude.{ℕ, ◌-◌, ◌==◌, Bool, true, false, ◌&&◌, cond, List, [], ◌∷◌, ◌++◌, length, map}
use Rattle.std.specs.List.{flat_map, position_or_len}
use Rattle.ss_text.specs.Texts.{Text, Row, text_eq, row_eq}
use Rattle.schema_model.specs.Catalogue.{RelationValue, DatabaseValue, CatalogueValue}
use Rattle.schema_model.specs.Changes.{after}
use Rattle.schema_model.specs.Placed.{numbered}
use Rattle.schema_model.specs.declared.change.Change.{Change}
use Rattle.schema_model.specs.declared.change.Change.TheVariants.{Insert, Delete}
use Rattle.view_def.specs.Profile.{ranges_over_rows}
use Rattle.view_def.specs.Query.{Query}
use Rattle.schema_delta.specs.declared.spec.FlatSpec.{FlatSpec}
use Rattle.schema_delta.specs.Flat.{part, own}
use Rattle.plan_law.specs.Touched.{Marked, marked_bases, touched, flat_moved}

-- a change of one row, and whether the row comes
pub data OfRow : Change → Bool → Type 0 where
  comes : (db rel : Text) (row : Row) → OfRow (Insert db rel row) true
  goes : (db rel : Text) (row : Row) → OfRow (Delete db rel row) false

-- the catalogue in which the row stands: after an insert, and before a delete
abbrev pub holding : CatalogueValue → Change → CatalogueValue
holding c (Insert db rel row) = after c (Insert db rel row)
holding c g = c

-- whether it is the row at a place of a relation: the last row after an insert, the first equal one before a delete
abbrev pub is_changed : Change → Text → RelationValue → ℕ → Bool
is_changed (Insert db rel row) name r k = text_eq db name && text_eq rel r.name && (k == length r.rows - 1)
is_changed (Delete db rel row) name r k = text_eq db name && text_eq rel r.name && (k == position_or_len (row_eq row) r.rows)
is_changed g name r k = false

-- a relation with this row alone
abbrev pub alone : RelationValue → Row → RelationValue
alone r row = record r { rows = row ∷ [] }

-- flat rows that all have this mark
abbrev pub with_mark : Bool → List Row → List (Marked Text)
with_mark mark rows = map (λ row. (row, mark)) rows

-- what a relation contributes: where a declaration ranges over rows, each row's own, marked where it is the changed one
abbrev pub marked_part : Change → FlatSpec → Text → RelationValue → List (Marked Text)
marked_part g s db r =
    cond (ranges_over_rows s.range)
    (flat_map (λ (n : ℕ × Row). with_mark (is_changed g db r n.0) (part s db (alone r n.1))) (numbered 0 r.rows))
    (with_mark false (part s db r))

abbrev pub marked_whole : Change → FlatSpec → DatabaseValue → List (Marked Text)
marked_whole g s d = with_mark false (own s.range d.name) ++ flat_map (marked_part g s d.name) d.relations

-- the flat rows of a catalogue
abbrev pub marked_flat : Change → CatalogueValue → FlatSpec → List (Marked Text)
marked_flat g c s = flat_map (marked_whole g s) c

-- how many partial combinations of a view hold a flat row of the changed row
abbrev pub touched_by : CatalogueValue → Query → Change → ℕ
touched_by c q g = touched q (marked_bases (marked_flat g (holding c g)) q 0 q.decls)

-- and how many such flat rows its declarations have
abbrev pub flat_moved_by : CatalogueValue → Query → Change → ℕ
flat_moved_by c q g = flat_moved (marked_bases (marked_flat g (holding c g)) q 0 q.decls)
