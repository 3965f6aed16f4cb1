use Rattle.std.proofs.Common.{◌+◌, ◌-◌, ◌∙◌, ℕ, ap, sym}
use Rattle.std.specs.Prelude.{nat_le}
use Rattle.change_draft.proofs.RowsLaw.{full_behind, insert_refused, insert_full, insert_free}
use Rattle.change_draft.proofs.counted.RowCounts.judge_insert.Goals as goal
use Rattle.schema_model.specs.Limits.{most_rows}

pub returns-in-Err : goal.returns-in-Err
returns-in-Err c = λ gs all none.
    insert_refused c.args.base.now.databases gs all.of_rows c.args.db.now c.args.rel.now c.args.row.now c.in-Err.refusal c.in-Err.ensures.refused

pub returns-in-Ok : goal.returns-in-Ok
returns-in-Ok c =
    let t = c.args.self.now in
    let base = c.args.base.now.databases in
    let told = ap (λ (n : ℕ). nat_le (t.gone + (most_rows - n)) t.come) (sym c.row_count.ensures.count) ∙ sym c.fills.ensures ∙ c.if-fills.true in
    λ gs all none.
    insert_full base gs all.of_rows c.args.db.now c.args.rel.now c.args.row.now c.in-Ok.ensures.fits (sym (full_behind t base gs c.row_count.ensures.sound all none) ∙ told)

pub returns-in-Ok-2 : goal.returns-in-Ok-2
returns-in-Ok-2 c =
    let t = c.args.self.now in
    let base = c.args.base.now.databases in
    let told = ap (λ (n : ℕ). nat_le (t.gone + (most_rows - n)) t.come) (sym c.row_count.ensures.count) ∙ sym c.fills.ensures ∙ c.if-fills.false in
    λ gs all none.
    insert_free base gs all.of_rows c.args.db.now c.args.rel.now c.args.row.now c.in-Ok-2.ensures.fits (sym (full_behind t base gs c.row_count.ensures.sound all none) ∙ told)
