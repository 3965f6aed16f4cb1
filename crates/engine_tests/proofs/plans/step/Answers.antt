use Rattle.std.proofs.Common.{ap, sym, subst, ◌∙◌}
use Rattle.schema_model.specs.Catalogue.{CatalogueValue}
use Rattle.schema_model.specs.Changes.{after}
use Rattle.schema_model.specs.States.{CatalogueState}
use Rattle.view_def.specs.declared.typed.View.{View}
use Rattle.view_def.specs.Query.{query_of}
use Rattle.plan_translate.specs.Moves.{MovesSides}
use Rattle.plan_translate.specs.Plans.{query_in, PlanStands}
use Rattle.engine_tests.proofs.plans.step.Goals as goal

pub returns : goal.returns
returns g c =
    let d = c.args.catalogue.now.databases in
    let change = c.args.change.now in
    let after_it = after d change in
    let sides = c.in_ok-moved.moved.sides in
    let of_view = subst (λ (v : View). MovesSides d after_it (query_of v) sides) (sym c.in_ok-ready.ensures.same.view) c.in_ok-moved.ensures.moves.sides in
    let moves = subst (MovesSides d after_it (query_in c.reserve.new.self)) (sym c.in_ok-ready.ensures.ready) of_view in
    let stands = c.commit-2.ensures.stands d after_it (c.in_ok-ready.ensures.same.stands d c.requires.stands) moves in
    let made = ap (λ (s : CatalogueState). s.databases) c.commit.ensures ∙ (λ i. after ((c.in_ok-made.ensures.waits i).databases) (c.in_ok-made.ensures.ready i)) in
    subst (λ (x : CatalogueValue). PlanStands x c.commit-2.new.self) (sym made) stands
