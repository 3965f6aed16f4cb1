use Rattle.std.proofs.Common.{◌≡◌}
use Rattle.std.specs.List.{AllWithin}
use Rattle.flow_law.specs.KeyedRows.{row_values, HasRoom}
use Rattle.flow_law.proofs.keyed_row.make_room.Given as goal

abbrev pub invariant-loop-row : goal.invariant-loop-row
invariant-loop-row l = record {
  same : row_values l.row-items ≡ row_values l.fn.rows.items;
  room : AllWithin HasRoom l.row-items 0 l.row-index;
}
