use Rattle.std.proofs.Common.{◌≡◌, ◌<◌, ◌≤◌, ◌+◌, ◌∷◌, ◌++◌, ◌∙◌, [], ℕ, List, map, take, length, get_or, refl, arith, ap, sym, subst}
use Rattle.std.specs.List.{AllByRecursion}
use Rattle.std.proofs.lemmas.List.{length_push, length-map, map-id, take_all}
use Rattle.std.proofs.lemmas.Iterator.Adapters.{YieldsList-from_vec}
use Rattle.std.proofs.lemmas.Iterator.Consumers.{YieldsList-turn, YieldsList-end, YieldsList-so_far}
use Rattle.operator_law.specs.declared.delta.Signed.{Signed}
use Rattle.join_delta.specs.Joins.{JoinValue}
use Rattle.schema_delta.specs.Net.{IsNet}
use Rattle.plan_law.specs.Chain.{Walks, walk_pairs}
use Rattle.plan_translate.specs.ChainStages.{joint_in, sides_in, side_moves}
use Rattle.plan_translate.specs.ChainCost.{CostsWalk}
use Rattle.plan_translate.proofs.ChainWhole.{walk_there, breaks_off}
use Rattle.plan_translate.proofs.ChainStages.{walks_on, pairs_on, nets_on, long_on, all_last}
use Rattle.plan_translate.proofs.chain_walk.walk.Goals as goal
use Rattle.ss_text.proofs.GroupLemmas.{all_front}

pub bounds-joins-len : goal.bounds-joins-len
bounds-joins-len g c =
    let gives = c.into_iter-right-iterator.ensures.into_iter_gives in
    let all = YieldsList-from_vec {s = c.into_iter-right-iterator.result} c.args.further.items gives.0 (gives.1 ∙ c.args.further.ok.0) in
    let turn = YieldsList-turn all c.loop-right.yielded c.loop-right.right-iterator c.loop-right.yielded_by c.next.result c.next.new.self c.in-Some.right c.in-Some.is c.next.ensures.steps in
    omega (arith, turn.0, c.loop-right.invariant.counted, c.requires, c.len.ensures)

pub loop-right-preserved : goal.loop-right-preserved
loop-right-preserved g c =
    let joins : List JoinValue = c.args.joins.now in
    let olds : List (List Signed) = c.loop-right.yielded in
    let right : List Signed = c.in-Some.right in
    let out : List Signed = c.loop-right.moves in
    let next : List Signed = c.in_ok-moves.moves in
    let was = c.loop-right.invariant in
    let n = length olds in
    let gives = c.into_iter-right-iterator.ensures.into_iter_gives in
    let all = YieldsList-from_vec {s = c.into_iter-right-iterator.result} c.args.further.items gives.0 (gives.1 ∙ c.args.further.ok.0) in
    let turn = YieldsList-turn all olds c.loop-right.right-iterator c.loop-right.yielded_by c.next.result c.next.new.self right c.in-Some.is c.next.ensures.steps in
    let lt : n < length joins = omega (arith, turn.0, c.requires) in
    let join : JoinValue = c.index-joins-len.result in
    let place : c.len.result ≡ n = omega (arith, c.len.ensures, was.counted) in
    let at : join ≡ get_or joins n join = c.index-joins-len.is ∙ ap (λ (k : ℕ). get_or joins k join) place in
    let longer : length (olds ++ right ∷ []) ≡ n + 1 = length_push olds right in
    let m = length (olds ++ right ∷ []) in
    let olds_sides : List (List Signed × List Signed) = c.loop-right.sides.items in
    let sides : List (List Signed × List Signed) = c.stage.new.sides.items in
    let pushed = c.in_ok-moves.ensures.sides in
    record {
      walks = walks_on joins n join lt at olds_sides sides out right m longer was.counted pushed c.args.first olds next refl was.walks c.in_ok-moves.ensures.next;
      counted = long_on joins n join lt at olds_sides sides out right m longer was.counted pushed;
      nets = λ f h.
          let before = was.nets f (all_front IsNet olds (right ∷ []) h) in
          (nets_on joins n join lt at olds_sides sides out right m longer was.counted pushed before.0 before.1 (all_last IsNet olds right h), c.in_ok-moves.ensures.net);
      cost = omega (arith, was.cost, c.in_ok-moves.ensures.cost, pairs_on joins n join lt at olds_sides sides out right m longer was.counted pushed);
      rises = omega (arith, was.rises, c.in_ok-moves.ensures.rises);
    }

pub returns-clause-walks : goal.returns-clause-walks
returns-clause-walks g c =
    let joins : List JoinValue = c.args.joins.now in
    let olds : List (List Signed) = c.loop-right.yielded in
    let gives = c.into_iter-right-iterator.ensures.into_iter_gives in
    let items = YieldsList-from_vec {s = c.into_iter-right-iterator.result} c.args.further.items gives.0 (gives.1 ∙ c.args.further.ok.0) in
    let done = YieldsList-end items olds c.loop-right.right-iterator c.loop-right.yielded_by c.next.result c.next.new.self c.in-None.is c.next.ensures.steps in
    let whole : olds ≡ c.args.further.items = sym (map-id olds) ∙ done.0 in
    let all : take (length olds) joins ≡ joins = take_all (length olds) joins (omega (arith, ap length whole, c.requires)) in
    subst (λ (nss : List (List Signed)). Walks (map joint_in joins) (map sides_in joins) c.args.first nss (map side_moves c.loop-right.sides.items) c.loop-right.moves) whole
    (subst (λ (js : List JoinValue). Walks (map joint_in js) (map sides_in js) c.args.first olds (map side_moves c.loop-right.sides.items) c.loop-right.moves) all c.loop-right.invariant.walks)

pub returns-clause-nets : goal.returns-clause-nets
returns-clause-nets g c =
    let olds : List (List Signed) = c.loop-right.yielded in
    let gives = c.into_iter-right-iterator.ensures.into_iter_gives in
    let items = YieldsList-from_vec {s = c.into_iter-right-iterator.result} c.args.further.items gives.0 (gives.1 ∙ c.args.further.ok.0) in
    let done = YieldsList-end items olds c.loop-right.right-iterator c.loop-right.yielded_by c.next.result c.next.new.self c.in-None.is c.next.ensures.steps in
    let whole : olds ≡ c.args.further.items = sym (map-id olds) ∙ done.0 in
    λ f h. c.loop-right.invariant.nets f (subst (λ (nss : List (List Signed)). AllByRecursion IsNet nss) (sym whole) h)

pub returns-clause-cost : goal.returns-clause-cost
returns-clause-cost g c =
    let joins : List JoinValue = c.args.joins.now in
    let olds : List (List Signed) = c.loop-right.yielded in
    let gives = c.into_iter-right-iterator.ensures.into_iter_gives in
    let items = YieldsList-from_vec {s = c.into_iter-right-iterator.result} c.args.further.items gives.0 (gives.1 ∙ c.args.further.ok.0) in
    let done = YieldsList-end items olds c.loop-right.right-iterator c.loop-right.yielded_by c.next.result c.next.new.self c.in-None.is c.next.ensures.steps in
    let whole : olds ≡ c.args.further.items = sym (map-id olds) ∙ done.0 in
    let all : take (length olds) joins ≡ joins = take_all (length olds) joins (omega (arith, ap length whole, c.requires)) in
    subst (λ (js : List JoinValue). c.loop-right.steps ≤ c.args.steps.now + walk_pairs (map joint_in js) (map sides_in js) (map side_moves c.loop-right.sides.items)) all c.loop-right.invariant.cost

pub returns-clause-each : goal.returns-clause-each
returns-clause-each g c =
    let olds : List (List Signed) = c.loop-right.yielded in
    let gives = c.into_iter-right-iterator.ensures.into_iter_gives in
    let items = YieldsList-from_vec {s = c.into_iter-right-iterator.result} c.args.further.items gives.0 (gives.1 ∙ c.args.further.ok.0) in
    let done = YieldsList-end items olds c.loop-right.right-iterator c.loop-right.yielded_by c.next.result c.next.new.self c.in-None.is c.next.ensures.steps in
    let whole : olds ≡ c.args.further.items = sym (map-id olds) ∙ done.0 in
    c.loop-right.invariant.counted ∙ ap length whole ∙ c.requires

pub returns-in_err-sides-clause-within : goal.returns-in_err-sides-clause-within
returns-in_err-sides-clause-within g c =
    let joins : List JoinValue = c.args.joins.now in
    let joints = length-map joins joint_in in
    let sides = length-map joins sides_in in
    walk_there (map joint_in joins) (map sides_in joins) c.args.first c.args.further.items (omega (arith, joints, sides)) (omega (arith, joints, c.requires)) c.args.steps.now

pub returns-in_err-moves-clause-within : goal.returns-in_err-moves-clause-within
returns-in_err-moves-clause-within g c =
    let joins : List JoinValue = c.args.joins.now in
    let olds : List (List Signed) = c.loop-right.yielded in
    let right : List Signed = c.in-Some.right in
    let was = c.loop-right.invariant in
    let n = length olds in
    let gives = c.into_iter-right-iterator.ensures.into_iter_gives in
    let all = YieldsList-from_vec {s = c.into_iter-right-iterator.result} c.args.further.items gives.0 (gives.1 ∙ c.args.further.ok.0) in
    let turn = YieldsList-turn all olds c.loop-right.right-iterator c.loop-right.yielded_by c.next.result c.next.new.self right c.in-Some.is c.next.ensures.steps in
    let front : olds ≡ take n c.args.further.items = sym (map-id olds) ∙ YieldsList-so_far all olds c.loop-right.right-iterator c.loop-right.yielded_by in
    let lt : n < length joins = omega (arith, turn.0, c.requires) in
    let join : JoinValue = c.index-joins-len.result in
    let place : c.len.result ≡ n = omega (arith, c.len.ensures, was.counted) in
    let at : join ≡ get_or joins n join = c.index-joins-len.is ∙ ap (λ (k : ℕ). get_or joins k join) place in
    breaks_off joins n join lt at c.loop-right.sides.items c.loop-right.moves was.counted c.args.first olds c.args.further.items right c.args.steps.now c.loop-right.steps c.stage.new.steps c.requires refl front turn.1
    was.walks was.nets was.cost c.stage.ensures.cost

pub returns-clause-within : goal.returns-clause-within
returns-clause-within g c =
    let joins : List JoinValue = c.args.joins.now in
    let olds : List (List Signed) = c.loop-right.yielded in
    let gives = c.into_iter-right-iterator.ensures.into_iter_gives in
    let items = YieldsList-from_vec {s = c.into_iter-right-iterator.result} c.args.further.items gives.0 (gives.1 ∙ c.args.further.ok.0) in
    let done = YieldsList-end items olds c.loop-right.right-iterator c.loop-right.yielded_by c.next.result c.next.new.self c.in-None.is c.next.ensures.steps in
    let whole : olds ≡ c.args.further.items = sym (map-id olds) ∙ done.0 in
    let all : take (length olds) joins ≡ joins = take_all (length olds) joins (omega (arith, ap length whole, c.requires)) in
    let was = c.loop-right.invariant in
    subst (λ (nss : List (List Signed)). CostsWalk (map joint_in joins) (map sides_in joins) c.args.first nss c.args.steps.now c.loop-right.steps) whole
    (subst (λ (js : List JoinValue). CostsWalk (map joint_in js) (map sides_in js) c.args.first olds c.args.steps.now c.loop-right.steps) all
    (record { moves = map side_moves c.loop-right.sides.items; out = c.loop-right.moves; walks = was.walks; nets = was.nets; within = was.cost }))
