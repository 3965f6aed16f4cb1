use Rattle.std.proofs.Common.{List, map, subst}
use Rattle.join_delta.specs.Joins.{JoinValue}
use Rattle.plan_translate.specs.ChainStages.{joint_in, sides_in}
use Rattle.plan_translate.specs.ChainCost.{CostsWalk}
use Rattle.plan_translate.specs.Plans.{query_in}
use Rattle.plan_translate.proofs.Within.{over_there, anew_costs}
use Rattle.plan_translate.proofs.plan.Plan.walk_anew.Goals as goal

pub returns-in_err-joins-clause-within : goal.returns-in_err-joins-clause-within
returns-in_err-joins-clause-within g c = λ stands.
    let p = c.args.self.now in
    over_there c.args.catalogue.now.databases (query_in p) p.sides stands c.args.first c.args.further.items c.requires c.args.steps.now

pub returns-in_err-moves-clause-within : goal.returns-in_err-moves-clause-within
returns-in_err-moves-clause-within g c = λ stands.
    let walk = subst (λ (js : List JoinValue). CostsWalk (map joint_in js) (map sides_in js) c.args.first c.args.further.items c.args.steps.now c.walk.new.steps) c.deref.ensures.value c.walk.ensures.within in
    anew_costs c.args.catalogue.now.databases (query_in c.args.self.now) c.in_ok-joins.joins.items c.args.first c.args.further.items c.args.steps.now c.walk.new.steps c.in_ok-joins.ensures.joints c.in_ok-joins.ensures.keeps walk

pub returns-clause-within : goal.returns-clause-within
returns-clause-within g c = λ stands.
    let walk = subst (λ (js : List JoinValue). CostsWalk (map joint_in js) (map sides_in js) c.args.first c.args.further.items c.args.steps.now c.walk.new.steps) c.deref.ensures.value c.walk.ensures.within in
    anew_costs c.args.catalogue.now.databases (query_in c.args.self.now) c.in_ok-joins.joins.items c.args.first c.args.further.items c.args.steps.now c.walk.new.steps c.in_ok-joins.ensures.joints c.in_ok-joins.ensures.keeps walk
