use Rattle.std.proofs.Common.{◌≡◌}
use Rattle.plan_translate.specs.Parts.{passing}
use Rattle.plan_translate.proofs.own.passing.Given as goal

abbrev pub invariant-loop-m : goal.invariant-loop-m
invariant-loop-m l = l.moves.items ≡ passing l.tests l.yielded
