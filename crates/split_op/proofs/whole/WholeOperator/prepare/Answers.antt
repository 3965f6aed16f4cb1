use Rattle.std.proofs.Common.{◌∙◌}
use Rattle.flow_law.specs.FactTables.{fact_table}
use Rattle.flow_law.specs.Script.{lines_between}
use Rattle.unfold_op.specs.FactMoves.{facts_in}
use Rattle.unfold_op.specs.OneTables.{label_for}
use Rattle.split_op.specs.Wholes.{labelled}
use Rattle.split_op.proofs.FitMoves.{can_prepare}
use Rattle.split_op.proofs.WholeTables.{fits_whole, gives_script, stops_whole, script_law, framed_lines}
use Rattle.split_op.proofs.whole.WholeOperator.prepare.Goals as goal

pub count_moved-after-requires : goal.count_moved-after-requires
count_moved-after-requires g c =
    let can = c.requires in
    (can.old, can.new, c.count-before.ensures ∙ can.keeps.keeps.total, can.moves, can.few)

pub prepare-requires : goal.prepare-requires
prepare-requires g c =
    let w = c.args.self.now in
    let t = g.I.TableOperator.table w.inner in
    let can = c.requires in
    g.met.I.TableOperator.prepares w.inner c.args.change.now (can_prepare t w.label c.args.change.now can.old can.new can.keeps.keeps (fits_whole w.label t c.args.change.now can))

pub without_frame-told-requires : goal.without_frame-told-requires
without_frame-told-requires g c =
    let w = c.args.self.now in
    let t = g.I.TableOperator.table w.inner in
    let ms = c.args.change.now in
    let can = c.requires in
    let before = c.count-before.ensures ∙ can.keeps.keeps.total in
    let gives = g.met.I.TableOperator.answers w.inner ms c.in-Ok.lines c.in-Ok.ensures.gives can.old can.new can.keeps.keeps can.moves in (
      label_for t.shape t.label ms,
      lines_between (label_for t.shape t.label ms) (fact_table (facts_in t.shape can.old)) (fact_table (facts_in t.shape can.new)),
      framed_lines t ms c.count-before.result c.count_moved-after.result can.old can.new c.in-Ok.lines.items before (c.count_moved-after.ensures can.old can.new before can.moves) gives,
    )

pub returns-in-Ok-clause-gives : goal.returns-in-Ok-clause-gives
returns-in-Ok-clause-gives g c = λ old new h moves.
    let w = c.args.self.now in
    let t = g.I.TableOperator.table w.inner in
    let ms = c.args.change.now in
    let before = c.count-before.ensures ∙ h.keeps.total in
    let gives = g.met.I.TableOperator.answers w.inner ms c.in-Ok.lines c.in-Ok.ensures.gives old new h.keeps moves in
    gives_script w.label t ms c.requires old new h moves c.in-Ok.lines.items gives c.without_frame-told.result.items
    (c.without_frame-told.ensures _ _ (framed_lines t ms c.count-before.result c.count_moved-after.result old new c.in-Ok.lines.items before (c.count_moved-after.ensures old new before moves) gives))

pub returns-in-Ok-clause-law : goal.returns-in-Ok-clause-law
returns-in-Ok-clause-law g c = λ old new h moves.
    let w = c.args.self.now in
    let t = g.I.TableOperator.table w.inner in
    let ms = c.args.change.now in
    let before = c.count-before.ensures ∙ h.keeps.total in
    let gives = g.met.I.TableOperator.answers w.inner ms c.in-Ok.lines c.in-Ok.ensures.gives old new h.keeps moves in
    let script = gives_script w.label t ms c.requires old new h moves c.in-Ok.lines.items gives c.without_frame-told.result.items
    (c.without_frame-told.ensures _ _ (framed_lines t ms c.count-before.result c.count_moved-after.result old new c.in-Ok.lines.items before (c.count_moved-after.ensures old new before moves) gives)) in
    script_law (labelled w.label t.shape) (facts_in t.shape old) (facts_in t.shape new) c.without_frame-told.result.items script.lines_are

pub returns-in-Err-clause-stops : goal.returns-in-Err-clause-stops
returns-in-Err-clause-stops g c = λ old new h moves.
    let w = c.args.self.now in
    let t = g.I.TableOperator.table w.inner in
    let stops = g.met.I.TableOperator.stops w.inner c.args.change.now c.in-Err.stop c.in-Err.ensures.stops in
    stops_whole w.label t c.args.change.now c.requires old new h moves c.in-Err.stop (stops old new h.keeps moves)
