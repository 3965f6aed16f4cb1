use Rattle.std.proofs.Common.{◌≡◌, [], subst}
use Rattle.flow_law.specs.InOrder.{AreTables}
use Rattle.flow_law.proofs.LabelLemmas.{none_in_order}
use Rattle.layer_tests.proofs.plain.PlainApplies.shape.Goals as goal

pub returns-clause-order : goal.returns-clause-order
returns-clause-order c = λ d ts e. let same : [] ≡ ts = cc e in subst AreTables same none_in_order
