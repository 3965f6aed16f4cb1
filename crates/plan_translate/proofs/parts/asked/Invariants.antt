use Rattle.std.proofs.Common.{◌≡◌, map}
use Rattle.plan_form.specs.Bases.{BaseValue, base_value}
use Rattle.plan_translate.specs.Parts.{own_tests}
use Rattle.plan_translate.proofs.parts.asked.Given as goal

abbrev pub invariant-loop-base : goal.invariant-loop-base
invariant-loop-base l = record {
  specs : l.specs.items ≡ map (λ (b : BaseValue). b.spec) (map base_value l.yielded);
  tests : own_tests l.tests.items ≡ map (λ (b : BaseValue). b.own) (map base_value l.yielded);
}
