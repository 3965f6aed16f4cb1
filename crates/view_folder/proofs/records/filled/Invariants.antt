use Rattle.std.proofs.Common.{◌≡◌, map, take}
use Rattle.std.specs.List.Sorted.{IsStrictlySortedBy}
use Rattle.ss_text.specs.Texts.{row_cmp}
use Rattle.flow_law.specs.Tables.{table_value, row_keys}
use Rattle.view_folder.specs.Records.{key_and_cells}
use Rattle.view_folder.proofs.records.filled.Given as goal

abbrev pub invariant-loop-row : goal.invariant-loop-row
invariant-loop-row l = record {
  table : l.table ≡ table_value l.fn.columns.items (map (key_and_cells l.shape) (take l.row-index l.rows));
  ascend : IsStrictlySortedBy row_cmp (row_keys l.table);
}
