use Rattle.std.proofs.Common.{sym, subst}
use Rattle.schema_model.specs.Changes.{after_all}
use Rattle.schema_model.proofs.SoundAfter.{sound_after_all}
use Rattle.plan_translate.specs.Costs.{CountsWalk}
use Rattle.view_engine.specs.Engines.{view_in}
use Rattle.view_engine.proofs.OneForms.{told_ok, told_err}
use Rattle.view_engine.proofs.RowLimits.{counts_as}
use Rattle.view_engine.proofs.engine.Engine.prepare_all.Goals as goal

pub with_lines-requires : goal.with_lines-requires
with_lines-requires g c =
    let d = c.args.catalogue.now.databases in
    let sound = sound_after_all d c.args.changes.now c.databases-databases.ensures.sound c.requires.well_formed c.requires.accepted in
    (d, after_all d c.args.changes.now, sound, c.requires.stands, c.in_ok-plan.ensures.moves)

pub returns-clause-moves : goal.returns-clause-moves
returns-clause-moves g c =
    let d = c.args.catalogue.now.databases in
    let sound = sound_after_all d c.args.changes.now c.databases-databases.ensures.sound c.requires.well_formed c.requires.accepted in
    told_ok _ _ c.with_lines.result (λ m h. h d (after_all d c.args.changes.now) sound c.requires.stands c.in_ok-plan.ensures.moves) c.with_lines.ensures.moves

pub returns-clause-stops : goal.returns-clause-stops
returns-clause-stops g c =
    let d = c.args.catalogue.now.databases in
    let sound = sound_after_all d c.args.changes.now c.databases-databases.ensures.sound c.requires.well_formed c.requires.accepted in
    told_err _ _ c.with_lines.result (λ s h. h d (after_all d c.args.changes.now) sound c.requires.stands c.in_ok-plan.ensures.moves) c.with_lines.ensures.stops

pub returns-clause-cost : goal.returns-clause-cost
returns-clause-cost g c =
    told_ok _ _ c.with_lines.result (λ m is. counts_as c.args.catalogue.now.databases (after_all c.args.catalogue.now.databases c.args.changes.now) (view_in c.args.self.now) c.in_ok-plan.plan m.plan c.args.steps.now c.prepare_all.new.steps _ is c.with_lines.ensures.steps c.in_ok-plan.ensures.cost) c.with_lines.ensures.plan

pub returns-clause-counts : goal.returns-clause-counts
returns-clause-counts g c =
    let d = c.args.catalogue.now.databases in
    subst (CountsWalk d (after_all d c.args.changes.now) (view_in c.args.self.now) c.args.steps.now) (sym c.with_lines.ensures.steps) c.prepare_all.ensures.within
