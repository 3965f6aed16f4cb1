use Rattle.std.proofs.Common.{subst}
use Rattle.view_def.specs.Profile.{IsViewOfProfile}
use Rattle.view_session.proofs.VerdictLemmas.{verdict_fits, verdict_in_order}
use Rattle.view_session.proofs.applies.SessionApplies.shape.Goals as goal

pub returns-clause-fits : goal.returns-clause-fits
returns-clause-fits c = λ k ts h. verdict_fits c.args.self.now.query (subst IsViewOfProfile c.upkeep-upkeep.ensures.view c.upkeep-upkeep.ensures.kept.engine.profile) k ts h

pub returns-clause-order : goal.returns-clause-order
returns-clause-order c = λ k ts h. verdict_in_order c.args.self.now.query k ts h
