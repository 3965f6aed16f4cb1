use Rattle.std.proofs.Common.{◌∙◌, sym, arith}
use Rattle.split_op.proofs.FitMoves.{can_prepare}
use Rattle.split_op.proofs.Columns.{fits_columns, stops_columns}
use Rattle.split_op.proofs.PartLaw.{gives_part, gives_gone}
use Rattle.split_op.proofs.part.inner_lines.Goals as goal

pub count_moved-requires : goal.count_moved-requires
count_moved-requires g c = let r = c.requires in (r.1, r.2, c.count-before.ensures ∙ r.3.keeps.total, r.4.moves, r.4.few)

pub returns-then-count_moved-eq0-clause-gives : goal.returns-then-count_moved-eq0-clause-gives
returns-then-count_moved-eq0-clause-gives g c = λ shape old new k f.
    let before = c.count-before.ensures ∙ k.keeps.total in
    gives_gone shape c.args.group.now.label old new c.count-before.result before (sym (c.count_moved.ensures old new before f.moves) ∙ c.if-count_moved-eq0.true) c.in_ok-lines.lines.items c.in_ok-lines.ensures

pub prepare-requires : goal.prepare-requires
prepare-requires g c =
    let r = c.requires in
    let t = g.I.TableOperator.table c.args.inner.now in
    let ms = c.args.group.now.moves in
    g.met.I.TableOperator.prepares c.args.inner.now ms (can_prepare t c.args.group.now.label ms r.1 r.2 r.3.keeps (fits_columns r.0 t.shape r.3.columns c.args.group.now.label r.1 r.2 ms r.4))

pub returns-in-Ok-clause-gives : goal.returns-in-Ok-clause-gives
returns-in-Ok-clause-gives g c = λ shape old new k f.
    let t = g.I.TableOperator.table c.args.inner.now in
    let ms = c.args.group.now.moves in
    let gives = g.met.I.TableOperator.answers c.args.inner.now ms c.in-Ok.lines c.in-Ok.ensures.gives old new k.keeps f.moves in
    let before = c.count-before.ensures ∙ k.keeps.total in
    let after = c.count_moved.ensures old new before f.moves in
    let differs = c.if-count_moved-eq0.false in
    gives_part shape c.args.group.now.label t k.columns ms old new k.keeps f (omega (arith, after, differs)) c.in-Ok.lines.items gives

pub returns-in-Err-clause-stops : goal.returns-in-Err-clause-stops
returns-in-Err-clause-stops g c = λ shape old new k f.
    let t = g.I.TableOperator.table c.args.inner.now in
    let stops = g.met.I.TableOperator.stops c.args.inner.now c.args.group.now.moves c.in-Err.stop c.in-Err.ensures.stops in
    stops_columns shape t.shape k.columns new c.in-Err.stop (stops old new k.keeps f.moves)
