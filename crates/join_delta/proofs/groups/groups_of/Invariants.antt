use Rattle.join_delta.specs.Groups.{AreGroups}
use Rattle.std.proofs.Common.{take}
use Rattle.join_delta.proofs.groups.groups_of.Given as goal

abbrev pub invariant-loop-m : goal.invariant-loop-m
invariant-loop-m l = AreGroups l.seed l.groups l.key (take l.m-index l.moves)
