use Rattle.std.proofs.Common.{map}
use Rattle.view_session.specs.Verdicts.{standing_of, waiting_of}
use Rattle.view_stack.specs.Stacks.{IsStack}
use Rattle.engine_tests.proofs.stacks.chance.first_other.Given as goal

abbrev pub invariant-loop-place : goal.invariant-loop-place
invariant-loop-place g l = IsStack (map standing_of l.stack.levels) (map waiting_of l.stack.levels) l.stack.names
