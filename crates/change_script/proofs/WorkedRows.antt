-- Worked rows.
use Rattle.std.proofs.Common.{◌≡◌, refl, [], ◌∷◌}
use Rattle.std.specs.Prelude.{codes}
use Rattle.flow_law.specs.declared.line.TableLine.TheVariants.{TableMinus, ColumnPlus, RowPlus, Cell}
use Rattle.change_script.specs.Printed.{printed}

table_line : printed (TableMinus (codes "math")) ≡ codes "table-" ∷ codes "math" ∷ []
table_line = refl

column_line : printed (ColumnPlus (codes "salInfo") (codes "physics")) ≡ codes "column+" ∷ codes "salInfo" ∷ codes "physics" ∷ []
column_line = refl

row_line : printed (RowPlus (codes "p") (codes "1" ∷ codes "3" ∷ [])) ≡ codes "row+" ∷ codes "p" ∷ codes "1" ∷ codes "3" ∷ []
row_line = refl

cell_line : printed (Cell (codes "salInfo") (codes "cs") [] (codes "Prof" ∷ [])) ≡ codes "cell" ∷ codes "salInfo" ∷ codes "cs" ∷ [] ∷ codes "Prof" ∷ []
cell_line = refl
