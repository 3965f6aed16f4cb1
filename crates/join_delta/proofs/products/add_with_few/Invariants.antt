use Rattle.std.proofs.Common.{◌≡◌, ◌++◌, take}
use Rattle.std.specs.List.{flat_map}
use Rattle.join_delta.specs.Partners.{crossed_with}
use Rattle.join_delta.proofs.products.add_with_few.Given as goal

abbrev pub invariant-loop-m : goal.invariant-loop-m
invariant-loop-m l = l.out.items ≡ l.initial.out.items ++ flat_map (crossed_with l.few_first l.few.key.now l.side.key.now l.few.moves.now) (take l.m-index l.side.moves.now)
