use Rattle.std.proofs.Common.{◌≡◌, map, take, length}
use Rattle.plan_law.specs.Chain.{chain}
use Rattle.plan_translate.specs.ChainStages.{joint_in}
use Rattle.plan_translate.specs.ChainFills.{Fills, rows_in}
use Rattle.plan_translate.proofs.chain_fill.filled.Given as goal

abbrev pub invariant-loop-right : goal.invariant-loop-right
invariant-loop-right l = record {
  fills : Fills (map joint_in (take (length l.yielded) l.joins)) l.fn.first.items (rows_in l.yielded) l.filled.items;
  comes : l.rows.items ≡ chain (map joint_in (take (length l.yielded) l.joins)) l.fn.first.items (rows_in l.yielded);
  counted : length l.filled.items ≡ length l.yielded;
}
