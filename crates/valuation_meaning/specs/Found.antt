-- What an index finds of a relation, and the indexes that were made.
use Rattle.std.specs.Prelude.{◌≡◌, ℕ, List, map, Some}
use Rattle.std.specs.List.{AllByRecursion}
use denote.Ref.{Bor}
use Rattle.ss_text.specs.Texts.{Text}
use Rattle.schema_model.specs.Catalogue.{CatalogueValue, RelationValue, relation_of}
use Rattle.valuation_meaning.specs.declared.index.Lists.{Lists}
use Rattle.valuation_meaning.specs.declared.index.Lists.TheVariants as lists
use Rattle.view_meaning.specs.Elements.{Element, A_text, A_row, ◌>>=◌}
use Rattle.valuation_meaning.specs.Indexed.{Indexed, cells_of, places_of}

-- what is found at a place: the row, or its cell, which is the text that is sought
abbrev pub found_at : Lists → RelationValue → Text → ℕ → Element
found_at lists.Rows r t k = A_row r k
found_at lists.Cells r t k = A_text t

-- the elements whose cell is this text
abbrev pub found_in : Lists → Indexed → Text → List Element
found_in ls i t = map (found_at ls i.0 t) (places_of t 0 (cells_of i))

-- of the relation and the attribute of these names; of no relation nothing
abbrev pub found_under : CatalogueValue → Lists → Text → Text → Text → Text → List Element
found_under c ls db rel a t = do
  r ← relation_of c db rel
  found_in ls (r, a) t

-- each index is of the relation and the attribute of its names
abbrev pub IsMade : CatalogueValue → (Bor Text × Bor Text × Bor Text) × Indexed → Type 0
IsMade c e = (relation_of c e.0.0.now e.0.1.now ≡ Some e.1.0) × (e.1.1 ≡ e.0.2.now)

abbrev pub AreMade : CatalogueValue → List ((Bor Text × Bor Text × Bor Text) × Indexed) → Type 0
AreMade c es = AllByRecursion (IsMade c) es
