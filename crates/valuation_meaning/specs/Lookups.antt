-- A declaration whose elements are found by an equality with a term of earlier declarations.
use Rattle.std.specs.Prelude.{◌≡◌, List, slice_get, Some}
use Rattle.schema_model.specs.Catalogue.{CatalogueValue}
use Rattle.view_def.specs.Query.{Query}
use Rattle.valuation_meaning.specs.declared.lookups.Lookup.{Lookup}
use Rattle.view_meaning.specs.Elements.{Element, Valuation, ◌>>=◌}
use Rattle.view_meaning.specs.Terms.{value_of}
use Rattle.valuation_meaning.specs.Resolved.{operand_term}
use Rattle.valuation_meaning.specs.Found.{found_under}
use Rattle.valuation_meaning.specs.Columns.{range_of, names_of, NeedsEqual}

-- the declaration of the view at its place is of its column, and needs the equality
pub record IsLookup (q : Query) (l : Lookup) : Type 0 where
  pub range : Some (range_of l.column) ≡ slice_get q.decls l.place
  pub equal : NeedsEqual q l.place (operand_term l.sought) l.column

-- the elements whose column is the value that is sought
abbrev pub looked_up : CatalogueValue → Valuation → Lookup → List Element
looked_up c v l = do
  t ← value_of v (operand_term l.sought)
  n ← names_of v l.column
  found_under c l.column.lists n.0 n.1 n.2 t
