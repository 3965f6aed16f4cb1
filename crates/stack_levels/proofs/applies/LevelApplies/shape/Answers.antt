use Rattle.std.proofs.Common.{◌≡◌, sym, subst}
use Rattle.apply_law.specs.Verdicts.{Makes}
use Rattle.view_session.specs.Verdicts.{verdict_of}
use Rattle.stack_levels.specs.States.{LevelState}
use Rattle.stack_levels.proofs.applies.LevelApplies.shape.Goals as goal

pub returns-clause-order : goal.returns-clause-order
returns-clause-order c = λ k ts is. c.shape.ensures.order k ts (subst (λ (l : LevelState). verdict_of l.session.query k ≡ Makes ts) (sym c.self.view_is) is)
