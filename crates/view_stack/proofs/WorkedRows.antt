-- Worked rows.
use Rattle.std.proofs.Common.{◌≡◌, refl, [], ◌∷◌}
use Rattle.std.specs.Prelude.{codes}
use Rattle.flow_law.specs.Tables.{TablesValue, table_value}
use Rattle.flow_law.specs.declared.line.TableLine.TheVariants.{TablePlus, RowMinus, ColumnPlus, RowPlus, Cell}
use Rattle.schema_model.specs.Catalogue.{CatalogueValue, relation_value, database_value}
use Rattle.schema_model.specs.declared.change.Change.TheVariants.{Insert, Delete, AddAttribute, CreateRelation}
use Rattle.view_stack.specs.Lifted.{lifted}

abbrev empty : CatalogueValue
empty = database_value (codes "V") [] ∷ []

-- a table that comes, with a column, and a row with a cell, which is one insert
new_table : lifted (codes "V") (codes "a" ∷ []) [] empty (TablePlus (codes "t") ∷ ColumnPlus (codes "t") (codes "b") ∷ RowPlus (codes "t") (codes "k" ∷ []) ∷ Cell (codes "t") (codes "b") (codes "x") (codes "k" ∷ []) ∷ [])
    ≡ CreateRelation (codes "V") (codes "t") (codes "a" ∷ []) ∷ AddAttribute (codes "V") (codes "t") (codes "b") []
    ∷ Insert (codes "V") (codes "t") (codes "k" ∷ codes "x" ∷ []) ∷ []
new_table = refl

-- a table of two rows, and its relation, whose attributes stand in another order
abbrev tables : TablesValue
tables = (codes "t", table_value (codes "b" ∷ codes "c" ∷ []) ((codes "k" ∷ [], codes "x" ∷ codes "y" ∷ []) ∷ (codes "l" ∷ [], [] ∷ codes "z" ∷ []) ∷ [])) ∷ []

abbrev catalogue : CatalogueValue
catalogue = database_value (codes "V") (relation_value (codes "t") (codes "c" ∷ codes "a" ∷ codes "b" ∷ []) ((codes "z" ∷ codes "l" ∷ [] ∷ []) ∷ (codes "y" ∷ codes "k" ∷ codes "x" ∷ []) ∷ []) ∷ []) ∷ []

-- two cells of one row are one delete and one insert
two_cells : lifted (codes "V") (codes "a" ∷ []) tables catalogue (RowMinus (codes "t") (codes "l" ∷ []) ∷ Cell (codes "t") (codes "b") (codes "v") (codes "k" ∷ []) ∷ Cell (codes "t") (codes "c") [] (codes "k" ∷ []) ∷ [])
    ≡ Delete (codes "V") (codes "t") (codes "z" ∷ codes "l" ∷ [] ∷ []) ∷ Delete (codes "V") (codes "t") (codes "y" ∷ codes "k" ∷ codes "x" ∷ []) ∷ Insert (codes "V") (codes "t") ([] ∷ codes "k" ∷ codes "v" ∷ []) ∷ []
two_cells = refl
