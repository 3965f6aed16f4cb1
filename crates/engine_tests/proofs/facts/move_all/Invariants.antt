use Rattle.std.proofs.Common.{take}
use Rattle.operator_law.specs.Bags.{MovesBag}
use Rattle.engine_tests.proofs.facts.move_all.Given as goal

abbrev pub invariant-loop-m : goal.invariant-loop-m
invariant-loop-m l = MovesBag l.initial.rows.items (take l.m-index l.moves) l.rows.items
