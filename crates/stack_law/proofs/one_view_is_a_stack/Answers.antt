use Rattle.std.specs.Prelude.{refl}
use Rattle.stack_law.proofs.OneViewLemmas.{opened_as, answered, finished}
use Rattle.stack_law.proofs.one_view_is_a_stack.Goals as goal

pub returns : goal.returns
returns c = record { same = record { opening = opened_as; first = λ q k h. refl; answers = λ o line settled. answered o settled line; finish = finished } }
