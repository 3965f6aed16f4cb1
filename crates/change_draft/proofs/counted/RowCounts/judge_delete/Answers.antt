use Rattle.std.proofs.Common.{◌∙◌, sym}
use Rattle.schema_model.specs.States.{plain_relation}
use Rattle.change_draft.specs.Named.{named}
use Rattle.change_draft.proofs.RowsLaw.{missing_behind, delete_refused, delete_missing, delete_free}
use Rattle.change_draft.proofs.counted.RowCounts.judge_delete.Goals as goal

pub returns-in-Err : goal.returns-in-Err
returns-in-Err c = λ gs all none.
    delete_refused c.args.base.now.databases gs all.of_rows c.args.db.now c.args.rel.now c.args.row.now c.in-Err.refusal c.in-Err.ensures.refused

pub returns-in-Ok : goal.returns-in-Ok
returns-in-Ok c =
    let t = c.args.self.now in
    let base = c.args.base.now.databases in
    let n = named c.args.db.now c.args.rel.now c.args.row.now in
    let told = sym c.takes_all.ensures ∙ c.if-takes_all.true in
    λ gs all none.
    delete_missing base gs all.of_rows c.args.db.now c.args.rel.now c.args.row.now c.in-Ok.ensures.fits
    (sym (missing_behind t base gs n (plain_relation c.in-Ok.relation.now) all none c.in-Ok.ensures.found) ∙ told)

pub returns-in-Ok-2 : goal.returns-in-Ok-2
returns-in-Ok-2 c =
    let t = c.args.self.now in
    let base = c.args.base.now.databases in
    let n = named c.args.db.now c.args.rel.now c.args.row.now in
    let told = sym c.takes_all.ensures ∙ c.if-takes_all.false in
    λ gs all none.
    delete_free base gs all.of_rows c.args.db.now c.args.rel.now c.args.row.now c.in-Ok-2.ensures.fits
    (sym (missing_behind t base gs n (plain_relation c.in-Ok.relation.now) all none c.in-Ok.ensures.found) ∙ told)
