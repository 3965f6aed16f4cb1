use Rattle.std.proofs.Common.{◌≡◌, ◌≤◌, ◌++◌, map, take, drop, length}
use Rattle.std.specs.List.{AllWithin}
use Rattle.flow_law.specs.KeyedRows.{row_values, HasRoom}
use Rattle.flow_law.specs.Lines.{with_empty_cell}
use Rattle.flow_law.specs.declared.keyed_row.KeyedRow.{KeyedRow}
use Rattle.flow_law.proofs.keyed_row.insert_cells.Given as goal

abbrev pub invariant-loop-row : goal.invariant-loop-row
invariant-loop-row l =
    let old = row_values l.fn.rows.items in
    record {
      done : row_values l.row-items ≡ map (with_empty_cell l.place) (take l.row-index old) ++ drop l.row-index old;
      room : AllWithin HasRoom l.row-items l.row-index (length l.row-items);
      within : AllWithin (λ (r : KeyedRow). l.place ≤ length r.cells.items) l.row-items l.row-index (length l.row-items);
    }
