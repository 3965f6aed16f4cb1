use Rattle.std.proofs.Common.{◌≡◌, None, subst}
use Rattle.schema_model.specs.Changes.{after_all}
use Rattle.view_def.specs.Query.{Query}
use Rattle.view_meaning.specs.Refusal.{refusal}
use Rattle.view_session.proofs.VerdictLemmas.{script_to}
use Rattle.view_session.proofs.applies.SessionApplies.propose.Goals as goal

pub returns-clause-script : goal.returns-clause-script
returns-clause-script g c =
    let s = c.args.self.now in
    let known = c.upkeep-upkeep.ensures in
    script_to c.propose.result s.query s.catalogue (after_all s.catalogue c.args.changes.now) (subst (λ (q : Query). refusal s.catalogue q ≡ None) known.view known.kept.engine.allowed) c.propose.ensures.script c.propose.ensures.allowed
