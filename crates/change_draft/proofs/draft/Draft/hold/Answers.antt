use Rattle.std.proofs.Common.{◌≡◌, true, None, ap, subst, sym}
use Rattle.schema_model.specs.Changes.{after_all}
use Rattle.schema_model.specs.Refusals.{fault}
use Rattle.change_draft.specs.Drafts.{DraftState, StandsOver}
use Rattle.change_draft.specs.Kept.{after_kept, is_due_in}
use Rattle.change_draft.specs.declared.draft.Kept.{Kept}
use Rattle.change_draft.proofs.DraftLemmas.{stands_counted, stands_kept, stands_more}
use Rattle.change_draft.proofs.draft.Draft.hold.Goals as goal

pub returns-in-Counts-clause-stands : goal.returns-in-Counts-clause-stands
returns-in-Counts-clause-stands c =
    let d : DraftState = record { changes = c.self.inside.changes.items; after = after_kept c.self.inside.kept; is_due = is_due_in c.self.inside.kept } in
    let base = c.args.base.now.databases in
    let accepted = subst (λ (x : DraftState). fault (after_all base x.changes) c.args.change.now ≡ None) (sym c.self.view_is) c.requires.accepted in
    stands_counted c.hold_row.result d base c.hold_row.new.changes.items c.args.change.now
    (subst (λ (x : DraftState). StandsOver x base) (sym c.self.view_is) c.requires.stands) c.requires.well_formed accepted c.hold_row.ensures.held

pub returns-in_ok-hold_last-in-Counts-2-clause-stands : goal.returns-in_ok-hold_last-in-Counts-2-clause-stands
returns-in_ok-hold_last-in-Counts-2-clause-stands c =
    let d : DraftState = record { changes = c.self.inside.changes.items; after = after_kept c.self.inside.kept; is_due = is_due_in c.self.inside.kept } in
    let base = c.args.base.now.databases in
    let accepted = subst (λ (x : DraftState). fault (after_all base x.changes) c.args.change.now ≡ None) (sym c.self.view_is) c.requires.accepted in
    subst (λ (k : Kept). StandsOver (record { changes = c.hold_last.new.changes.items; after = after_kept k; is_due = is_due_in k }) base) (sym c.replace.ensures.after)
    (stands_more d base c.hold_last.new.changes.items c.args.change.now None true
    (subst (λ (x : DraftState). StandsOver x base) (sym c.self.view_is) c.requires.stands) c.requires.well_formed accepted c.in_ok-hold_last-in-Counts-2.ensures.held tt)

pub returns-in-After-clause-stands : goal.returns-in-After-clause-stands
returns-in-After-clause-stands c =
    let d : DraftState = record { changes = c.self.inside.changes.items; after = after_kept c.self.inside.kept; is_due = is_due_in c.self.inside.kept } in
    let base = c.args.base.now.databases in
    let accepted = subst (λ (x : DraftState). fault (after_all base x.changes) c.args.change.now ≡ None) (sym c.self.view_is) c.requires.accepted in
    stands_kept c.hold_in.result d base c.in-After.catalogue.databases c.hold_in.new.catalogue.databases c.hold_in.new.changes.items c.args.change.now
    (subst (λ (x : DraftState). StandsOver x base) (sym c.self.view_is) c.requires.stands) c.requires.well_formed accepted (ap after_kept c.in-After.is) c.hold_in.ensures.held c.hold_in.ensures.made
