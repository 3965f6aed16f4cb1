use Rattle.std.proofs.Common.{ℕ, List, length, ap, sym, ◌∙◌, subst}
use Rattle.std.specs.List.{AllZip}
use Rattle.schema_model.specs.Changes.{after_all}
use Rattle.schema_model.proofs.SoundAfter.{sound_after_all}
use Rattle.schema_delta.specs.declared.spec.FlatSpec.{FlatSpec}
use Rattle.schema_delta.specs.Flat.{MovesGroup}
use Rattle.plan_law.specs.PlanMoves.{FlatMoved}
use Rattle.plan_translate.specs.Plans.{query_in}
use Rattle.plan_translate.specs.Costs.{CountsWalk, CountsPairs}
use Rattle.plan_translate.proofs.Each.{zip_long}
use Rattle.plan_translate.proofs.Stages.{plan_moves}
use Rattle.plan_translate.proofs.Costs.{counts_pairs}
use Rattle.plan_translate.proofs.Moving.{profile_in, specs_in}
use Rattle.plan_translate.proofs.Within.{change_there}
use Rattle.plan_translate.proofs.plan.Plan.prepare_all.Goals as goal

pub moved-requires : goal.moved-requires
moved-requires g c =
    zip_long (MovesGroup c.args.catalogue.now.databases c.args.changes.now) c.deref.result.now c.in_ok-deltas.deltas.items c.in_ok-deltas.ensures.moved
    ∙ ap length (c.deref.ensures.value ∙ specs_in c.self.inside c.self.invariant c.args.self.now c.self.view_is)

pub returns-clause-moves : goal.returns-clause-moves
returns-clause-moves g c =
    let p = c.args.self.now in
    let d = c.args.catalogue.now.databases in
    let changes = c.args.changes.now in
    let specs = specs_in c.self.inside c.self.invariant p c.self.view_is in
    let flat_moved : FlatMoved d (after_all d changes) (query_in p) c.in_ok-deltas.deltas.items = subst (λ (ss : List FlatSpec). AllZip (MovesGroup d changes) ss c.in_ok-deltas.deltas.items) (c.deref.ensures.value ∙ specs) c.in_ok-deltas.ensures.moved in
    let sound = c.databases-databases.ensures.sound in
    plan_moves d (after_all d changes) (query_in p) c.in_ok-moved.moved _ _ sound (sound_after_all d changes sound c.requires.well_formed c.requires.accepted) (profile_in c.self.inside c.self.invariant p c.self.view_is)
    (c.in_ok-moved.ensures.walked (after_all d changes) flat_moved c.requires.stands)

pub returns-clause-cost : goal.returns-clause-cost
returns-clause-cost g c =
    let p = c.args.self.now in
    let d = c.args.catalogue.now.databases in
    let changes = c.args.changes.now in
    let specs = specs_in c.self.inside c.self.invariant p c.self.view_is in
    let flat_moved : FlatMoved d (after_all d changes) (query_in p) c.in_ok-deltas.deltas.items = subst (λ (ss : List FlatSpec). AllZip (MovesGroup d changes) ss c.in_ok-deltas.deltas.items) (c.deref.ensures.value ∙ specs) c.in_ok-deltas.ensures.moved in
    subst (λ (n : ℕ). CountsPairs d (after_all d changes) (query_in p) c.in_ok-moved.moved n c.moved.new.steps) c.flat_group.ensures.steps
    (counts_pairs d (after_all d changes) (query_in p) c.in_ok-moved.moved _ _ (c.in_ok-moved.ensures.walked (after_all d changes) flat_moved c.requires.stands))

pub returns-in_err-deltas-clause-within : goal.returns-in_err-deltas-clause-within
returns-in_err-deltas-clause-within g c =
    let p = c.args.self.now in
    let d = c.args.catalogue.now.databases in
    let there = change_there d (after_all d c.args.changes.now) (query_in p) (profile_in c.self.inside c.self.invariant p c.self.view_is) p.sides c.requires.stands c.args.steps.now in
    subst (CountsWalk d (after_all d c.args.changes.now) (query_in p) c.args.steps.now) (sym c.flat_group.ensures.steps) there

pub returns-in_err-moved-clause-within : goal.returns-in_err-moved-clause-within
returns-in_err-moved-clause-within g c =
    let p = c.args.self.now in
    let d = c.args.catalogue.now.databases in
    let change = c.args.changes.now in
    let specs = specs_in c.self.inside c.self.invariant p c.self.view_is in
    let flat_moved : FlatMoved d (after_all d change) (query_in p) c.in_ok-deltas.deltas.items = subst (λ (ss : List FlatSpec). AllZip (MovesGroup d change) ss c.in_ok-deltas.deltas.items) (c.deref.ensures.value ∙ specs) c.in_ok-deltas.ensures.moved in
    subst (λ (n : ℕ). CountsWalk d (after_all d change) (query_in p) n c.moved.new.steps) c.flat_group.ensures.steps (c.moved.ensures.within (after_all d change) flat_moved c.requires.stands)

pub returns-clause-within : goal.returns-clause-within
returns-clause-within g c =
    let p = c.args.self.now in
    let d = c.args.catalogue.now.databases in
    let change = c.args.changes.now in
    let specs = specs_in c.self.inside c.self.invariant p c.self.view_is in
    let flat_moved : FlatMoved d (after_all d change) (query_in p) c.in_ok-deltas.deltas.items = subst (λ (ss : List FlatSpec). AllZip (MovesGroup d change) ss c.in_ok-deltas.deltas.items) (c.deref.ensures.value ∙ specs) c.in_ok-deltas.ensures.moved in
    subst (λ (n : ℕ). CountsWalk d (after_all d change) (query_in p) n c.moved.new.steps) c.flat_group.ensures.steps (c.moved.ensures.within (after_all d change) flat_moved c.requires.stands)
