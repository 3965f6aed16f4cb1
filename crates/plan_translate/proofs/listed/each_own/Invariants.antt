use Rattle.std.proofs.Common.{◌≡◌, take, length}
use Rattle.plan_translate.specs.ChainFills.{rows_in}
use Rattle.plan_translate.specs.Parts.{own_tests}
use Rattle.plan_translate.specs.Listed.{own_listed}
use Rattle.plan_translate.proofs.listed.each_own.Given as goal

abbrev pub invariant-loop-spec : goal.invariant-loop-spec
invariant-loop-spec l = record {
  listed : rows_in l.all.items ≡ own_listed l.catalogue.databases (take l.spec-index l.specs) (own_tests (take l.spec-index l.tests));
  counted : length l.all.items ≡ l.spec-index;
}
