use Rattle.std.proofs.Common.{◌≡◌, ◌<◌, ◌∙◌, Some, None, length, ap, sym, subst, arith}
use Rattle.schema_model.specs.Catalogue.{CatalogueValue}
use Rattle.schema_model.specs.Changes.{after_all}
use Rattle.schema_model.specs.Refusals.{group_fault}
use Rattle.schema_model.specs.declared.refusal.Refusal.{Refusal}
use Rattle.view_session.specs.Session.{IsNotHeld}
use Rattle.view_session.proofs.GroupLemmas.{first_held}
use Rattle.view_session.proofs.grouped.group_of.Goals as goal

pub returns-in-Err-Change-clause-refused : goal.returns-in-Err-Change-clause-refused
returns-in-Err-Change-clause-refused c = λ verdict.
    let i = c.loop-change.change-index in
    let more : i < length c.args.changes.now = omega arith in
    let stands = c.loop-change.invariant in
    let a = c.args.catalogue.now.databases in
    let hs = c.loop-change.group.draft.changes in
    let g = c.change-item.result in
    let e = c.in-Err-Change.field-0 in
    first_held a c.args.changes.now hs i g e c.in-Err-Change.refusal c.count-place.result more c.change-item.is stands.held
    (subst (λ (d : CatalogueValue). group_fault d hs ≡ None) stands.same stands.over.draft.accepted)
    c.in-Err-Change.field-0-is (subst (λ (d : CatalogueValue). IsNotHeld (after_all d hs) g e) stands.same c.in-Err-Change.ensures.refused)
    (c.count-place.ensures ∙ ap length c.in-Err-Change.ensures.same)
    ∙ ap (λ (r : Refusal). Some (c.count-place.result, r)) (sym c.in-Err-Change.refusal-is)
