use Rattle.std.proofs.Common.{map}
use Rattle.view_stack.specs.Stacks.{IsStack}
use Rattle.engine_tests.proofs.stacks.worked.first_other.Given as goal

abbrev pub invariant-loop-place : goal.invariant-loop-place
invariant-loop-place g l = IsStack (map g.A.Applies.state l.stack.levels) (map g.A.Applies.waits l.stack.levels) l.stack.names
