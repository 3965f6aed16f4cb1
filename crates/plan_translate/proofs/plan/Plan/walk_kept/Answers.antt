use Rattle.std.proofs.Common.{◌≤◌, ◌+◌, List, map, sym, subst}
use Rattle.operator_law.specs.declared.delta.Signed.{Signed}
use Rattle.join_delta.specs.Joins.{JoinValue}
use Rattle.plan_law.specs.Chain.{SideMoves, Walks, walk_pairs}
use Rattle.plan_translate.specs.ChainStages.{joint_in, sides_in, side_moves}
use Rattle.plan_translate.specs.ChainCost.{CostsWalk}
use Rattle.plan_translate.specs.Plans.{PlanValue, query_in, JoinsStand}
use Rattle.plan_translate.proofs.Moving.{joints_in, one_in, kept_over}
use Rattle.plan_translate.proofs.Within.{kept_costs}
use Rattle.plan_translate.proofs.plan.Plan.walk_kept.Goals as goal

pub returns-clause-walks : goal.returns-clause-walks
returns-clause-walks g c = λ d stands.
    let i = c.self.inside in
    let p = c.args.self.now in
    let first : List Signed = c.args.first in
    let further : List (List Signed) = c.args.further.items in
    let moves : List SideMoves = map side_moves c.in_ok-moves.moves.sides.items in
    let out : List Signed = c.in_ok-moves.moves.out in
    let walks = subst (λ (js : List JoinValue). Walks (map joint_in js) (map sides_in js) first further moves out) c.deref.ensures.value c.in_ok-moves.ensures.walks in
    let le = subst (λ (js : List JoinValue). c.walk.new.steps ≤ c.args.steps.now + walk_pairs (map joint_in js) (map sides_in js) moves) c.deref.ensures.value c.in_ok-moves.ensures.cost in
    let stand : JoinsStand d (query_in p) (map sides_in i.joins.items) = subst (λ (v : PlanValue). JoinsStand d (query_in p) v.sides) (sym c.self.view_is) stands in
    kept_over d (query_in p) i.joins.items first further moves out c.args.steps.now c.walk.new.steps (joints_in i c.self.invariant p c.self.view_is) (one_in i c.self.invariant p c.self.view_is) c.requires.none walks le stand

pub returns-in_err-moves-clause-within : goal.returns-in_err-moves-clause-within
returns-in_err-moves-clause-within g c = λ d stands.
    let i = c.self.inside in
    let p = c.args.self.now in
    let walk = subst (λ (js : List JoinValue). CostsWalk (map joint_in js) (map sides_in js) c.args.first c.args.further.items c.args.steps.now c.walk.new.steps) c.deref.ensures.value c.walk.ensures.within in
    let stand : JoinsStand d (query_in p) (map sides_in i.joins.items) = subst (λ (v : PlanValue). JoinsStand d (query_in p) v.sides) (sym c.self.view_is) stands in
    kept_costs d (query_in p) i.joins.items c.args.first c.args.further.items c.args.steps.now c.walk.new.steps (joints_in i c.self.invariant p c.self.view_is) (one_in i c.self.invariant p c.self.view_is) c.requires.none walk stand

pub returns-clause-within : goal.returns-clause-within
returns-clause-within g c = λ d stands.
    let i = c.self.inside in
    let p = c.args.self.now in
    let walk = subst (λ (js : List JoinValue). CostsWalk (map joint_in js) (map sides_in js) c.args.first c.args.further.items c.args.steps.now c.walk.new.steps) c.deref.ensures.value c.walk.ensures.within in
    let stand : JoinsStand d (query_in p) (map sides_in i.joins.items) = subst (λ (v : PlanValue). JoinsStand d (query_in p) v.sides) (sym c.self.view_is) stands in
    kept_costs d (query_in p) i.joins.items c.args.first c.args.further.items c.args.steps.now c.walk.new.steps (joints_in i c.self.invariant p c.self.view_is) (one_in i c.self.invariant p c.self.view_is) c.requires.none walk stand
