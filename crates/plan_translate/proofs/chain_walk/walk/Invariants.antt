use Rattle.std.proofs.Common.{◌≡◌, ◌+◌, ◌≤◌, length, map, take}
use Rattle.std.specs.List.{AllByRecursion}
use Rattle.schema_delta.specs.Net.{IsNet}
use Rattle.plan_law.specs.Chain.{Walks, AreNet, walk_pairs}
use Rattle.plan_translate.specs.ChainStages.{joint_in, sides_in, side_moves}
use Rattle.plan_translate.proofs.chain_walk.walk.Given as goal

abbrev pub invariant-loop-right : goal.invariant-loop-right
invariant-loop-right g l = record {
  walks : Walks (map joint_in (take (length l.yielded) l.joins)) (map sides_in (take (length l.yielded) l.joins)) l.fn.first l.yielded (map side_moves l.sides.items) l.moves;
  counted : length l.sides.items ≡ length l.yielded;
  nets : IsNet l.fn.first → AllByRecursion IsNet l.yielded → AreNet (map side_moves l.sides.items) × IsNet l.moves;
  cost : l.steps ≤ l.fn.steps + walk_pairs (map joint_in (take (length l.yielded) l.joins)) (map sides_in (take (length l.yielded) l.joins)) (map side_moves l.sides.items);
  rises : l.fn.steps ≤ l.steps;
}
