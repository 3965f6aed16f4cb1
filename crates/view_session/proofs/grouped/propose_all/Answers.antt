use Rattle.std.proofs.Common.{◌≡◌, List, None, subst}
use Rattle.std.proofs.lemmas.Result.{err_from_is_err_and}
use Rattle.schema_model.specs.Catalogue.{CatalogueValue}
use Rattle.schema_model.specs.Changes.{after_all}
use Rattle.schema_model.specs.Refusals.{group_fault}
use Rattle.schema_model.specs.declared.change.Change.{Change}
use Rattle.view_meaning.specs.Refusal.{refusal}
use Rattle.view_session.specs.Upkeeps.{view_of}
use Rattle.view_session.specs.Verdicts.{verdict_of}
use Rattle.view_session.proofs.VerdictLemmas.{group_refused}
use Rattle.view_session.proofs.grouped.propose_all.Goals as goal
use Rattle.flow_law.specs.Faults.{IsFault}

pub returns-in_err-group-clause-refused : goal.returns-in_err-group-clause-refused
returns-in_err-group-clause-refused g c =
    let p = err_from_is_err_and c.from_residual.result c.from_residual.ensures.1 in
    rw (p.1, p.2) (c.in_err-group.ensures.refused (verdict_of (view_of c.args.upkeep.now)))

pub returns-in_err-propose_group-clause-refused : goal.returns-in_err-propose_group-clause-refused
returns-in_err-propose_group-clause-refused g c =
    let a = c.args.catalogue.now.databases in
    let q = view_of c.args.upkeep.now in
    let stop = c.in_err-propose_group.field-0.0 in
    let same = c.in_ok-group.ensures.changes in
    let p = err_from_is_err_and c.from_residual-in_err-propose_group.result c.from_residual-in_err-propose_group.ensures.1 in
    let held = c.in_ok-group.group.draft.changes in
    let stays = c.in_ok-group.ensures.catalogue in
    let accepted = subst (λ (d : CatalogueValue). group_fault d held ≡ None) stays c.in_ok-group.ensures.over.draft.accepted in
    let refused = subst (λ (d : CatalogueValue). IsFault (refusal (after_all d held) q) stop) stays c.in_err-propose_group.ensures.refused in
    rw (p.1, p.2)
    (group_refused a q c.args.changes.now stop (subst (λ (gs : List Change). group_fault a gs ≡ None) same accepted)
    (subst (λ (gs : List Change). IsFault (refusal (after_all a gs) q) stop) same refused))
