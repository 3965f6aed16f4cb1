use Rattle.std.proofs.Common.{◌≡◌, map, take, Some}
use Rattle.std.specs.List.{AllZip}
use Rattle.join_delta.specs.Joins.{JoinValue}
use Rattle.plan_translate.specs.Sides.{LikeJoin}
use Rattle.plan_translate.proofs.commit.reserve_each.Given as goal

abbrev pub invariant-loop-join : goal.invariant-loop-join
invariant-loop-join l = record {
  alike : AllZip LikeJoin l.fn.joins.items l.join-items;
  ready : l.ready.items ≡ take l.join-index l.sides;
  waits : map (λ (j : JoinValue). j.waiting) (take l.join-index l.join-items) ≡ map Some (take l.join-index l.sides);
}
