use Rattle.std.proofs.Common.{[], subst}
use Rattle.split_op.specs.Parts.{SameColumns}
use Rattle.split_op.proofs.Columns.{fits_columns, can_keep_columns}
use Rattle.split_op.proofs.FitMoves.{bears_one}
use Rattle.split_op.proofs.stages.reserve_fresh.Goals as goal

pub reserve-requires-clause-change : goal.reserve-requires-clause-change
reserve-requires-clause-change g c =
    let r = c.requires in
    let t = c.in_ok-inner.inner in
    let one = g.I.TableOperator.table t in
    let ms = c.args.group.now.moves in
    let label = c.args.group.now.label in
    let columns = subst (SameColumns r.0) (g.met.I.TableOperator.same_form c.args.pattern.now t c.in_ok-inner.ensures.alike) r.2 in
    g.met.I.TableOperator.reserves t ms (bears_one one label ms [] r.1 (g.met.I.TableOperator.keeps_facts t [] c.in_ok-inner.ensures.empty) (fits_columns r.0 one.shape columns label [] r.1 ms r.3))

pub reserve-requires-clause-fits : goal.reserve-requires-clause-fits
reserve-requires-clause-fits g c =
    let r = c.requires in
    let t = c.in_ok-inner.inner in
    let columns = subst (SameColumns r.0) (g.met.I.TableOperator.same_form c.args.pattern.now t c.in_ok-inner.ensures.alike) r.2 in
    ([], r.1, c.in_ok-inner.ensures.empty, r.3.moves, g.met.I.TableOperator.can_be_kept t r.1 (can_keep_columns r.0 (g.I.TableOperator.table t).shape columns r.1 r.4))
