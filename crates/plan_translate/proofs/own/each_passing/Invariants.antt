use Rattle.std.proofs.Common.{◌≡◌, take, length}
use Rattle.plan_translate.specs.Parts.{each_passing, own_tests}
use Rattle.plan_translate.proofs.own.each_passing.Given as goal

abbrev pub invariant-loop-delta : goal.invariant-loop-delta
invariant-loop-delta l = record {
  passing : l.own.items ≡ each_passing (own_tests (take (length l.yielded) l.tests)) l.yielded;
  counted : length l.own.items ≡ length l.yielded;
}
