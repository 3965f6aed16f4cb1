use Rattle.std.proofs.Common.{sym, subst}
use Rattle.view_meaning.specs.Meaning.{shape_of}
use Rattle.plan_law.specs.PlanMoves.{fact_rows}
use Rattle.view_engine.specs.Forms.{MovesForm}
use Rattle.view_engine.specs.Engines.{view_in}
use Rattle.view_engine.proofs.FactForms.{move_form, can_keep}
use Rattle.view_engine.proofs.engine.Engine.reserve.Goals as goal

pub reserve-requires : goal.reserve-requires
reserve-requires c =
    let q = view_in c.args.self.now in
    let r = c.requires in
    let form = move_form r.0 r.1 q r.2.profile r.3.sound c.args.moved.plan.facts r.3.plan.facts in (
      shape_of q,
      fact_rows r.0 q,
      fact_rows r.1 q,
      record { keeps = r.2.tables; form = subst (λ ms. MovesForm (shape_of q) ms (fact_rows r.0 q) (fact_rows r.1 q)) (sym c.facts-facts.ensures) form },
      can_keep r.1 q r.2.profile r.3.sound r.3.allowed,
    )
