use Rattle.std.proofs.Common.{◌≡◌, List, Bool, cond, length, map, ap, sym, ◌∙◌, subst}
use Rattle.std.proofs.lemmas.List.{length-map}
use Rattle.operator_law.specs.declared.delta.Signed.{Signed}
use Rattle.schema_delta.specs.Net.{SameNet}
use Rattle.plan_law.specs.Chain.{SideMoves}
use Rattle.plan_law.specs.PlanRows.{plan_joints}
use Rattle.plan_law.specs.PlanMoves.{fact_moves}
use Rattle.plan_translate.specs.ChainStages.{side_moves}
use Rattle.plan_translate.specs.declared.chain_walk.WalkMoves.{WalkMoves}
use Rattle.plan_translate.specs.Read.{left_moves, kept_moves}
use Rattle.plan_translate.specs.Plans.{PlanMoveValue, query_in}
use Rattle.plan_translate.proofs.Moving.{output_in, reads_in, walked_by, counts_walk}
use Rattle.plan_translate.proofs.Within.{deltas_there}
use Rattle.plan_translate.proofs.plan.Plan.moved.Goals as goal
use Rattle.plan_translate.proofs.plan.Plan.moved.Goals.{then-self, else-self}

pub returns-clause-walked : goal.returns-clause-walked
returns-clause-walked g c = λ c' flat_moved stands.
    let i = c.self.inside in
    let p = c.args.self.now in
    let q = query_in p in
    let d = c.args.catalogue.now.databases in
    let walk : WalkMoves = c.in_ok-walk.walk in
    let last : WalkMoves = c.if-self.walk in
    let moves : List SideMoves = map side_moves walk.sides.items in
    let facts : List Signed = c.in_ok-facts.facts in
    let own = c.in_ok-first.ensures in
    let nets = c.in_ok-walk.ensures.nets own.net.0 own.net.1 in
    let each : length moves ≡ length (plan_joints q q.decls) = length-map walk.sides.items side_moves ∙ c.in_ok-walk.ensures.each in
    let reads = reads_in i c.self.invariant p c.self.view_is in
    let kept : (map side_moves last.sides.items ≡ kept_moves q moves) × (last.out ≡ walk.out) =
    elim c.if-self.branch [
      | then-self w ↦ (
        ap (λ (m : WalkMoves). map side_moves m.sides.items) w.walk-is ∙ w.keep_left.ensures ∙ sym (ap (λ (b : Bool). cond b (map left_moves moves) moves) (sym reads ∙ w.if-self.true)),
        ap (λ (m : WalkMoves). m.out) w.walk-is,
      )
      | else-self w ↦ (
        ap (λ (m : WalkMoves). map side_moves m.sides.items) w.walk-is ∙ sym (ap (λ (b : Bool). cond b (map left_moves moves) moves) (sym reads ∙ w.if-self.false)),
        ap (λ (m : WalkMoves). m.out) w.walk-is,
      )
    ] in
    let m : PlanMoveValue = record { sides = map side_moves last.sides.items; facts = facts } in
    let same : SameNet (fact_moves q walk.out) facts = subst (λ (out : List Signed). SameNet (fact_moves q out) facts) kept.1 (c.in_ok-facts.ensures.same q (output_in i c.self.invariant p c.self.view_is)) in
    walked_by d c' q c.args.deltas.items own.moves.0 c.in_ok-first.first c.in_ok-first.further.items own.moves.1 own.moves.2 own.moves.3 flat_moved
    moves walk.out c.args.steps.now c.walk_over.new.steps (c.in_ok-walk.ensures.walks stands) each nets.0 nets.1 m kept.0 same c.in_ok-facts.ensures.net

pub returns-in_err-first-clause-within : goal.returns-in_err-first-clause-within
returns-in_err-first-clause-within g c = λ c' flat_moved stands.
    let p = c.args.self.now in
    deltas_there c.args.catalogue.now.databases c' (query_in p) c.own_moves.ensures.profile p.sides stands c.args.deltas.items flat_moved c.args.steps.now

pub returns-in_err-walk-clause-within : goal.returns-in_err-walk-clause-within
returns-in_err-walk-clause-within g c = λ c' flat_moved stands.
    let d = c.args.catalogue.now.databases in
    let q = query_in c.args.self.now in
    let own = c.in_ok-first.ensures in
    counts_walk d c' q c.args.deltas.items own.moves.0 c.in_ok-first.first c.in_ok-first.further.items own.moves.1 own.moves.2 own.moves.3 flat_moved c.args.steps.now c.walk_over.new.steps own.net.0 own.net.1
    (c.walk_over.ensures.within stands)

pub returns-in_err-facts-clause-within : goal.returns-in_err-facts-clause-within
returns-in_err-facts-clause-within g c = λ c' flat_moved stands.
    let d = c.args.catalogue.now.databases in
    let q = query_in c.args.self.now in
    let own = c.in_ok-first.ensures in
    counts_walk d c' q c.args.deltas.items own.moves.0 c.in_ok-first.first c.in_ok-first.further.items own.moves.1 own.moves.2 own.moves.3 flat_moved c.args.steps.now c.walk_over.new.steps own.net.0 own.net.1
    (c.walk_over.ensures.within stands)

pub returns-clause-within : goal.returns-clause-within
returns-clause-within g c = λ c' flat_moved stands.
    let d = c.args.catalogue.now.databases in
    let q = query_in c.args.self.now in
    let own = c.in_ok-first.ensures in
    counts_walk d c' q c.args.deltas.items own.moves.0 c.in_ok-first.first c.in_ok-first.further.items own.moves.1 own.moves.2 own.moves.3 flat_moved c.args.steps.now c.walk_over.new.steps own.net.0 own.net.1
    (c.walk_over.ensures.within stands)
