use Rattle.std.proofs.Common.{◌≡◌, ◌∙◌, None, ap, sym, subst}
use Rattle.view_def.specs.Query.{Query}
use Rattle.view_meaning.specs.Meaning.{meaning}
use Rattle.view_meaning.specs.Refusal.{refusal}
use Rattle.apply_law.specs.Verdicts.{Verdict, Makes, tables_in}
use Rattle.view_session.proofs.VerdictLemmas.{verdict_made}
use Rattle.view_session.proofs.applies.SessionApplies.tables.Goals as goal

pub returns-clause-tables : goal.returns-clause-tables
returns-clause-tables c =
    let s = c.args.self.now in
    let kept = c.upkeep-upkeep.ensures.kept in
    let view = c.upkeep-upkeep.ensures.view in
    kept.tables ∙ ap (meaning s.catalogue) view ∙ sym (ap tables_in (verdict_made s.query s.catalogue (subst (λ (q : Query). refusal s.catalogue q ≡ None) view kept.engine.allowed)))

pub returns-clause-verdict : goal.returns-clause-verdict
returns-clause-verdict c =
    let s = c.args.self.now in
    let kept = c.upkeep-upkeep.ensures.kept in
    let is = verdict_made s.query s.catalogue (subst (λ (q : Query). refusal s.catalogue q ≡ None) c.upkeep-upkeep.ensures.view kept.engine.allowed) in
    is ∙ sym (ap (λ (v : Verdict). Makes (tables_in v)) is)
