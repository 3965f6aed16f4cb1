use Rattle.std.proofs.Common.{◌≡◌, subst, sym}
use Rattle.schema_model.specs.Changes.{after_all}
use Rattle.change_draft.specs.Drafts.{DraftState, without_rows}
use Rattle.change_draft.specs.Kept.{CountedIn}
use Rattle.change_draft.specs.declared.draft.Kept.{Kept}
use Rattle.change_draft.proofs.RowsLaw.{left_by_all}
use Rattle.change_draft.proofs.draft.Draft.schema.Goals as goal

pub returns-in-Counts : goal.returns-in-Counts
returns-in-Counts c =
    let base = c.args.base.now.databases in
    let gs = c.self.inside.changes.items in
    let counted = subst (λ (k : Kept). CountedIn k gs) c.in-Counts.is c.self.invariant in
    subst (λ (x : DraftState). without_rows base ≡ without_rows (after_all base x.changes)) c.self.view_is (sym (left_by_all base gs counted.of_rows))
