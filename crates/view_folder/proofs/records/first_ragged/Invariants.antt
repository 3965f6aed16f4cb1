use Rattle.std.proofs.Common.{◌≡◌, ◌+◌, drop}
use Rattle.view_folder.specs.Records.{ragged}
use Rattle.view_folder.proofs.records.first_ragged.Given as goal

abbrev pub invariant-loop-row : goal.invariant-loop-row
invariant-loop-row l = record {
  counted : l.nth ≡ 2 + l.row-index;
  left : ragged l.want l.nth (drop l.row-index l.rows) ≡ ragged l.want 2 l.rows;
}
