use Rattle.std.specs.List.Sorted.{IsStrictlySortedBy}
use Rattle.view_stack.proofs.key_texts.KeyTexts.of.Goals as goal

pub returns-in-None-clause-ascend : goal.returns-in-None-clause-ascend
unfolding IsStrictlySortedBy
returns-in-None-clause-ascend c = tt
