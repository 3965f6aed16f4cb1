use Rattle.std.proofs.Common.{sym, subst}
use Rattle.operator_law.specs.Bags.{MovesBag}
use Rattle.view_meaning.specs.Meaning.{shape_of}
use Rattle.plan_law.specs.PlanMoves.{fact_rows}
use Rattle.plan_translate.specs.Moves.{MovesSides}
use Rattle.view_engine.specs.Engines.{view_in}
use Rattle.view_engine.proofs.FactForms.{can_keep}
use Rattle.view_engine.proofs.Standing.{engine_stands}
use Rattle.view_engine.proofs.engine.Engine.commit.Goals as goal

pub returns-clause-stands : goal.returns-clause-stands
returns-clause-stands c = λ a b m stands moves ready.
    let q = view_in c.args.self.now in
    let sides = subst (λ ps. MovesSides a b q ps) (sym ready.plan) moves.plan.sides in
    let bag = subst (λ ms. MovesBag (fact_rows a q) ms (fact_rows b q)) (sym ready.tables) moves.plan.facts.moved in
    let keeps = c.commit-2.ensures (shape_of q) (fact_rows a q) (fact_rows b q) stands.tables bag (can_keep b q stands.profile moves.sound moves.allowed) in
    engine_stands b c.args.self.now.plan.view c.commit.new.self c.commit-2.new.self c.commit.ensures.view stands.profile (c.commit.ensures.stands a b stands.plan sides) keeps moves.allowed
