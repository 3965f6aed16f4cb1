use Rattle.std.proofs.Common.{arith}
use Rattle.std.proofs.lemmas.Bool.{not-true}
use Rattle.flow_law.specs.Lines.{has_row, has_column}
use Rattle.kept_tables.proofs.table.KeptTable.make.Goals as goal

pub add_row-requires-clause-absent : goal.add_row-requires-clause-absent
add_row-requires-clause-absent c = not-true (has_row c.in-RowPlus.key c.args.self.now.table) (rw c.in-RowPlus.is at c.requires.fits)

pub add_row-requires-clause-coming : goal.add_row-requires-clause-coming
add_row-requires-clause-coming c =
    let memory = rw c.in-RowPlus.is at c.requires.memory in
    omega (arith, memory.rows)

pub add_column-requires-clause-absent : goal.add_column-requires-clause-absent
add_column-requires-clause-absent c = not-true (has_column c.in-ColumnPlus.column c.args.self.now.table) (rw c.in-ColumnPlus.is at c.requires.fits)

pub add_column-requires-clause-coming : goal.add_column-requires-clause-coming
add_column-requires-clause-coming c =
    let memory = rw c.in-ColumnPlus.is at c.requires.memory in
    omega (arith, memory.columns)
