use Rattle.std.proofs.Common.{subst, sym, ◌∙◌}
use Rattle.unfold_op.specs.OneTables.{OneTableValue, CanPrepare, Gives, MayStop, Makes}
use Rattle.unfold_op.specs.TableFields.{seen}
use Rattle.unfold_op.proofs.Refused.{never_refused}
use Rattle.unfold_op.proofs.kept_facts.KeptFactsOperator.prepare.Goals as goal

pub returns-in-Ok-clause-law : goal.returns-in-Ok-clause-law
returns-in-Ok-clause-law g c = subst (λ (t : OneTableValue). Makes t c.args.change.now c.in-Ok.lines.items) c.self.view_is c.in-Ok.ensures.law

pub returns-in-Ok-clause-gives : goal.returns-in-Ok-clause-gives
returns-in-Ok-clause-gives g c = subst (λ (t : OneTableValue). Gives t c.args.change.now c.in-Ok.lines.items) c.self.view_is c.in-Ok.ensures.gives

pub returns-in-Err-clause-stops : goal.returns-in-Err-clause-stops
returns-in-Err-clause-stops g c =
    let can = subst (λ (t : OneTableValue). CanPrepare t c.args.change.now) (sym c.self.view_is) c.requires in (
      subst (λ (t : OneTableValue). MayStop t c.args.change.now c.in-Err.stop) c.self.view_is c.in-Err.ensures.stops,
      λ plain. never_refused (seen c.self.inside.table) c.args.change.now c.in-Err.stop (c.self.invariant.1 ∙ plain) can c.in-Err.ensures.stops,
    )
