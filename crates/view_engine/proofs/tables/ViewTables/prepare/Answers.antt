use Rattle.std.proofs.Common.{sym, subst, arith}
use Rattle.split_op.specs.Labels.{labels_moved}
use Rattle.view_engine.specs.Forms.{KeepsTables, TellsLines, StopsSo}
use Rattle.view_engine.proofs.OneForms.{can_prepare_one, script_one, stop_one, told_ok, told_err}
use Rattle.view_engine.proofs.EachForms.{no_steps, can_prepare_each, script_each, stop_each}
use Rattle.view_engine.proofs.tables.ViewTables.prepare.Goals as goal

pub prepare-requires : goal.prepare-requires
prepare-requires g c =
    let w = c.in-OneOfRows.whole in
    let r = c.requires in
    let keeps = subst (λ v. KeepsTables r.0 v r.1) c.in-OneOfRows.is r.3.keeps in
    can_prepare_one r.0 w.label w.inner r.1 keeps c.args.facts.now r.2 r.3.form

pub returns-in-OneOfRows-clause-lines : goal.returns-in-OneOfRows-clause-lines
returns-in-OneOfRows-clause-lines g c =
    let w = c.in-OneOfRows.whole in
    told_ok _ _ c.prepare.result
    (λ lines h. subst (λ v. TellsLines v c.args.facts.now lines.items) (sym c.in-OneOfRows.is) (λ shape old new k m. script_one shape w.label w.inner old k new lines.items (h old new k.keeps m)))
    c.prepare.ensures.gives

pub returns-in-OneOfRows-clause-stops : goal.returns-in-OneOfRows-clause-stops
returns-in-OneOfRows-clause-stops g c =
    let w = c.in-OneOfRows.whole in
    told_err _ _ c.prepare.result
    (λ s h. subst (λ v. StopsSo v c.args.facts.now s) (sym c.in-OneOfRows.is) (λ shape old new k m. stop_one shape w.label w.inner old k new s (h old new k.keeps m)))
    c.prepare.ensures.stops

pub returns-in-OneOfRows-clause-steps : goal.returns-in-OneOfRows-clause-steps
returns-in-OneOfRows-clause-steps g c = omega (arith, c.prepare.ensures.cost 0 tt, c.prepare.ensures.rises)

pub prepare-requires-in-OneOfCells : goal.prepare-requires-in-OneOfCells
prepare-requires-in-OneOfCells g c =
    let w = c.in-OneOfCells.whole in
    let r = c.requires in
    let keeps = subst (λ v. KeepsTables r.0 v r.1) c.in-OneOfCells.is r.3.keeps in
    can_prepare_one r.0 w.label w.inner r.1 keeps c.args.facts.now r.2 r.3.form

pub returns-in-OneOfCells-clause-lines : goal.returns-in-OneOfCells-clause-lines
returns-in-OneOfCells-clause-lines g c =
    let w = c.in-OneOfCells.whole in
    told_ok _ _ c.prepare-in-OneOfCells.result
    (λ lines h. subst (λ v. TellsLines v c.args.facts.now lines.items) (sym c.in-OneOfCells.is) (λ shape old new k m. script_one shape w.label w.inner old k new lines.items (h old new k.keeps m)))
    c.prepare-in-OneOfCells.ensures.gives

pub returns-in-OneOfCells-clause-stops : goal.returns-in-OneOfCells-clause-stops
returns-in-OneOfCells-clause-stops g c =
    let w = c.in-OneOfCells.whole in
    told_err _ _ c.prepare-in-OneOfCells.result
    (λ s h. subst (λ v. StopsSo v c.args.facts.now s) (sym c.in-OneOfCells.is) (λ shape old new k m. stop_one shape w.label w.inner old k new s (h old new k.keeps m)))
    c.prepare-in-OneOfCells.ensures.stops

pub returns-in-OneOfCells-clause-steps : goal.returns-in-OneOfCells-clause-steps
returns-in-OneOfCells-clause-steps g c = omega (arith, c.prepare-in-OneOfCells.ensures.cost 0 tt, c.prepare-in-OneOfCells.ensures.rises)

pub prepare-requires-in-EachOfRows : goal.prepare-requires-in-EachOfRows
prepare-requires-in-EachOfRows g c =
    let w = c.in-EachOfRows.split in
    let r = c.requires in
    let keeps = subst (λ v. KeepsTables r.0 v r.1) c.in-EachOfRows.is r.3.keeps in
    can_prepare_each r.0 w r.1 keeps c.args.facts.now r.2 r.3.form

pub returns-in-EachOfRows-clause-lines : goal.returns-in-EachOfRows-clause-lines
returns-in-EachOfRows-clause-lines g c =
    let w = c.in-EachOfRows.split in
    told_ok _ _ c.prepare-in-EachOfRows.result
    (λ lines h. subst (λ v. TellsLines v c.args.facts.now lines.items) (sym c.in-EachOfRows.is) (λ shape old new k m. script_each shape w old k new lines.items (h old new k.keeps m)))
    c.prepare-in-EachOfRows.ensures.gives

pub returns-in-EachOfRows-clause-stops : goal.returns-in-EachOfRows-clause-stops
returns-in-EachOfRows-clause-stops g c =
    let w = c.in-EachOfRows.split in
    told_err _ _ c.prepare-in-EachOfRows.result
    (λ s h. subst (λ v. StopsSo v c.args.facts.now s) (sym c.in-EachOfRows.is) (λ shape old new k m. stop_each shape w old k new s (h old new k.keeps m)))
    c.prepare-in-EachOfRows.ensures.stops

pub returns-in-EachOfRows-clause-steps : goal.returns-in-EachOfRows-clause-steps
returns-in-EachOfRows-clause-steps g c = omega (arith, c.prepare-in-EachOfRows.ensures.cost 0 (record { steps = λ label. 0; each = λ label t o. tt; all = no_steps (labels_moved c.args.facts.now) }), c.prepare-in-EachOfRows.ensures.rises)

pub prepare-requires-in-EachOfCells : goal.prepare-requires-in-EachOfCells
prepare-requires-in-EachOfCells g c =
    let w = c.in-EachOfCells.split in
    let r = c.requires in
    let keeps = subst (λ v. KeepsTables r.0 v r.1) c.in-EachOfCells.is r.3.keeps in
    can_prepare_each r.0 w r.1 keeps c.args.facts.now r.2 r.3.form

pub returns-in-EachOfCells-clause-lines : goal.returns-in-EachOfCells-clause-lines
returns-in-EachOfCells-clause-lines g c =
    let w = c.in-EachOfCells.split in
    told_ok _ _ c.prepare-in-EachOfCells.result
    (λ lines h. subst (λ v. TellsLines v c.args.facts.now lines.items) (sym c.in-EachOfCells.is) (λ shape old new k m. script_each shape w old k new lines.items (h old new k.keeps m)))
    c.prepare-in-EachOfCells.ensures.gives

pub returns-in-EachOfCells-clause-stops : goal.returns-in-EachOfCells-clause-stops
returns-in-EachOfCells-clause-stops g c =
    let w = c.in-EachOfCells.split in
    told_err _ _ c.prepare-in-EachOfCells.result
    (λ s h. subst (λ v. StopsSo v c.args.facts.now s) (sym c.in-EachOfCells.is) (λ shape old new k m. stop_each shape w old k new s (h old new k.keeps m)))
    c.prepare-in-EachOfCells.ensures.stops

pub returns-in-EachOfCells-clause-steps : goal.returns-in-EachOfCells-clause-steps
returns-in-EachOfCells-clause-steps g c = omega (arith, c.prepare-in-EachOfCells.ensures.cost 0 (record { steps = λ label. 0; each = λ label t o. tt; all = no_steps (labels_moved c.args.facts.now) }), c.prepare-in-EachOfCells.ensures.rises)
