use Rattle.std.proofs.Common.{sym, subst}
use Rattle.operator_law.specs.Bags.{MovesBag}
use Rattle.view_meaning.specs.Meaning.{shape_of}
use Rattle.plan_law.specs.PlanMoves.{fact_rows}
use Rattle.view_engine.specs.Forms.{MovesForm}
use Rattle.view_engine.specs.Engines.{view_in}
use Rattle.view_engine.proofs.FactForms.{move_form, stop_rows, between}
use Rattle.view_engine.proofs.engine.Engine.with_lines.Goals as goal

pub prepare-requires : goal.prepare-requires
prepare-requires g c =
    let q = view_in c.args.self.now in
    let r = c.requires in
    let form = move_form r.0 r.1 q r.3.profile r.2 c.args.plan.facts r.4.facts in
    (shape_of q, fact_rows r.0 q, fact_rows r.1 q, record { keeps = r.3.tables; form = subst (λ ms. MovesForm (shape_of q) ms (fact_rows r.0 q) (fact_rows r.1 q)) (sym c.facts.ensures) form })

pub returns-in-Ok-clause-moves : goal.returns-in-Ok-clause-moves
returns-in-Ok-clause-moves g c = λ a b sound stands moves.
    let q = view_in c.args.self.now in
    let bag = subst (λ ms. MovesBag (fact_rows a q) ms (fact_rows b q)) (sym c.facts.ensures) moves.facts.moved in
    let told = between a b q stands.profile c.in-Ok.lines.items (c.in-Ok.ensures.lines (shape_of q) (fact_rows a q) (fact_rows b q) stands.tables bag) in
    record { sound = sound; plan = moves; allowed = told.0; lines_are = told.1 }

pub returns-in-Err-clause-stops : goal.returns-in-Err-clause-stops
returns-in-Err-clause-stops g c = λ a b sound stands moves.
    let q = view_in c.args.self.now in
    let bag = subst (λ ms. MovesBag (fact_rows a q) ms (fact_rows b q)) (sym c.facts.ensures) moves.facts.moved in
    stop_rows b q stands.profile c.in-Err.stop (c.in-Err.ensures.stops (shape_of q) (fact_rows a q) (fact_rows b q) stands.tables bag)
