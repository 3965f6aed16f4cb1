use Rattle.flow_law.proofs.table.Table.change.Goals as goal

pub returns-in-ColumnMinus-clause-ok : goal.returns-in-ColumnMinus-clause-ok
returns-in-ColumnMinus-clause-ok c = rw c.in-ColumnMinus.is c.remove_column.ensures

pub returns-in-Cell-clause-ok : goal.returns-in-Cell-clause-ok
returns-in-Cell-clause-ok c = rw c.in-Cell.is c.set_cell.ensures.ok
