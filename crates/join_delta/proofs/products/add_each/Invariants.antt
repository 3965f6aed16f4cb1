use Rattle.std.proofs.Common.{◌≡◌, ◌++◌, take}
use Rattle.join_delta.specs.Partners.{crossed_with}
use Rattle.join_delta.proofs.products.add_each.Given as goal

abbrev pub invariant-loop-other : goal.invariant-loop-other
invariant-loop-other l = l.out.items ≡ l.initial.out.items ++ crossed_with l.other_first l.other_key l.key (take l.other-index l.others) l.m
