use Rattle.std.proofs.Common.{ℕ, ◌+◌, ◌≤◌, sym, subst}
use Rattle.std.specs.Option.{ForSome}
use Rattle.schema_model.specs.Changes.{after}
use Rattle.schema_model.proofs.SoundAfter.{sound_after}
use Rattle.plan_translate.specs.Costs.{CountsWalk}
use Rattle.view_engine.specs.Engines.{view_in, row_limit}
use Rattle.view_engine.proofs.OneForms.{told_ok, told_err}
use Rattle.view_engine.proofs.RowLimits.{within_row, counts_as}
use Rattle.view_engine.proofs.engine.Engine.prepare.Goals as goal

pub with_lines-requires : goal.with_lines-requires
with_lines-requires g c =
    let d = c.args.catalogue.now.databases in
    let sound = sound_after d c.args.change.now c.databases-databases.ensures.sound c.requires.well_formed c.requires.accepted in
    (d, after d c.args.change.now, sound, c.requires.stands, c.in_ok-plan.ensures.moves)

pub returns-clause-moves : goal.returns-clause-moves
returns-clause-moves g c =
    let d = c.args.catalogue.now.databases in
    let sound = sound_after d c.args.change.now c.databases-databases.ensures.sound c.requires.well_formed c.requires.accepted in
    told_ok _ _ c.with_lines.result (λ m h. h d (after d c.args.change.now) sound c.requires.stands c.in_ok-plan.ensures.moves) c.with_lines.ensures.moves

pub returns-clause-stops : goal.returns-clause-stops
returns-clause-stops g c =
    let d = c.args.catalogue.now.databases in
    let sound = sound_after d c.args.change.now c.databases-databases.ensures.sound c.requires.well_formed c.requires.accepted in
    told_err _ _ c.with_lines.result (λ s h. h d (after d c.args.change.now) sound c.requires.stands c.in_ok-plan.ensures.moves) c.with_lines.ensures.stops

pub returns-clause-cost : goal.returns-clause-cost
returns-clause-cost g c =
    told_ok _ _ c.with_lines.result (λ m is. counts_as c.args.catalogue.now.databases (after c.args.catalogue.now.databases c.args.change.now) (view_in c.args.self.now) c.in_ok-plan.plan m.plan c.args.steps.now c.prepare.new.steps _ is c.with_lines.ensures.steps c.in_ok-plan.ensures.cost) c.with_lines.ensures.plan

pub returns-clause-counts : goal.returns-clause-counts
returns-clause-counts g c =
    let d = c.args.catalogue.now.databases in
    subst (CountsWalk d (after d c.args.change.now) (view_in c.args.self.now) c.args.steps.now) (sym c.with_lines.ensures.steps) c.prepare.ensures.within

pub returns-clause-within : goal.returns-clause-within
returns-clause-within g c =
    let d = c.args.catalogue.now.databases in
    let q = view_in c.args.self.now in
    let bounded = within_row d q c.args.change.now c.args.steps.now c.prepare.new.steps c.requires.stands.profile c.prepare.ensures.within in
    subst (λ (s : ℕ). ForSome (row_limit d q c.args.change.now) (λ (n : ℕ). s ≤ c.args.steps.now + n)) (sym c.with_lines.ensures.steps) bounded

pub returns-in_err-plan-clause-within : goal.returns-in_err-plan-clause-within
returns-in_err-plan-clause-within g c =
    within_row c.args.catalogue.now.databases (view_in c.args.self.now) c.args.change.now c.args.steps.now c.prepare.new.steps c.requires.stands.profile c.prepare.ensures.within
