use Rattle.view_meaning.proofs.OrderLemmas.{facts_same, meaning_same, refusal_same}
use Rattle.view_meaning.proofs.order.order_means_nothing.Goals as goal

pub returns-clause-facts : goal.returns-clause-facts
returns-clause-facts c = λ a b q sound also order. (facts_same a b q sound also order).same

pub returns-clause-refusal : goal.returns-clause-refusal
returns-clause-refusal c = refusal_same

pub returns-clause-tables : goal.returns-clause-tables
returns-clause-tables c = meaning_same
