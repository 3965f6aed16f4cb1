use Rattle.view_engine.proofs.FactsFew.{facts_few}
use Rattle.view_engine.proofs.few.facts_are_few.Goals as goal

pub returns : goal.returns
returns c = record { few = facts_few }
