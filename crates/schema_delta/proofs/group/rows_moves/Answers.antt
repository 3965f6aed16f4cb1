use Rattle.std.proofs.Common.{◌<◌, ◌+◌, List, length, arith, sym, subst}
use Rattle.operator_law.specs.declared.delta.Signed.{Signed}
use Rattle.schema_delta.proofs.OneRowLaw.{RowsWalk, one_on}
use Rattle.schema_delta.proofs.group.rows_moves.Goals as goal

pub loop-change-preserved : goal.loop-change-preserved
loop-change-preserved c =
    let base = c.args.catalogue.now.databases in
    let changes = c.args.changes.now in
    let spec = c.args.spec.now in
    let i = c.loop-change.change-index in
    let more : i < length changes = omega arith in
    let on = one_on base changes spec i c.loop-change.delta c.loop-change.invariant c.change-item.result more c.change-item.is c.in_ok-rows_change.field-0 c.in_ok-rows_change.ensures.moved in
    subst (λ (ms : List Signed). RowsWalk base changes spec (i + 1) ms) (sym c.in_ok-delta.ensures) on
