use Rattle.std.proofs.Common.{◌≡◌, ◌<◌, ◌+◌, ◌∷◌, ◌++◌, ◌∙◌, [], ℕ, List, Vec, map, take, length, get_or, arith, ap, sym, subst}
use Rattle.std.specs.Global.{Global}
use Rattle.std.proofs.lemmas.List.{length_push, map-id, take_all}
use Rattle.std.proofs.lemmas.Iterator.Adapters.{YieldsList-from_vec}
use Rattle.std.proofs.lemmas.Iterator.Consumers.{YieldsList-turn, YieldsList-end}
use Rattle.ss_text.specs.Texts.{Row}
use Rattle.join_delta.specs.Joins.{JoinValue}
use Rattle.plan_translate.specs.ChainStages.{joint_in}
use Rattle.plan_translate.specs.ChainFills.{Fills, rows_in}
use Rattle.plan_translate.proofs.ChainFilled.{fills_more, comes_more}
use Rattle.plan_translate.proofs.chain_fill.filled.Goals as goal

pub loop-right-preserved : goal.loop-right-preserved
loop-right-preserved c =
    let joins : List JoinValue = c.args.joins.now in
    let olds : List (Vec Row Global) = c.loop-right.yielded in
    let right : Vec Row Global = c.in-Some-right.right in
    let was = c.loop-right.invariant in
    let n = length olds in
    let gives = c.into_iter-right-iterator.ensures.into_iter_gives in
    let all = YieldsList-from_vec {s = c.into_iter-right-iterator.result} c.pop.new.self.items gives.0 (gives.1 ∙ c.pop.new.self.ok.0) in
    let turn = YieldsList-turn all olds c.loop-right.right-iterator c.loop-right.yielded_by c.next.result c.next.new.self right c.in-Some-right.is c.next.ensures.steps in
    let popped : length c.args.further.items ≡ length c.pop.new.self.items + 1 = ap length c.in-Some.ensures.items ∙ length_push c.pop.new.self.items c.in-Some.last_right in
    let lt : n < length joins = omega (arith, turn.0, c.requires, popped) in
    let join : JoinValue = c.index-joins-len.result in
    let place : c.len.result ≡ n = omega (arith, c.len.ensures, was.counted) in
    let at : join ≡ get_or joins n join = c.index-joins-len.is ∙ ap (λ (k : ℕ). get_or joins k join) place in
    let longer : length (olds ++ right ∷ []) ≡ n + 1 = length_push olds right in
    let before : List JoinValue = c.loop-right.filled.items in
    let after : List JoinValue = c.push.new.self.items in
    let next : JoinValue = c.in_ok-next.next in
    let pushed : after ≡ before ++ next ∷ [] = c.in_ok-push.ensures.items in
    record {
      fills = fills_more joins n join lt at c.args.first.items olds right before after next c.loop-right.rows.items (length (olds ++ right ∷ [])) longer pushed c.in_ok-next.ensures.keeps was.fills was.comes;
      comes = comes_more joins n join lt at c.args.first.items olds right before after next c.loop-right.rows.items (length (olds ++ right ∷ [])) longer pushed c.in_ok-next.ensures.keeps was.fills was.comes c.in_ok-next.out.items c.in_ok-next.ensures.gives;
      counted = omega (arith, ap length pushed, length_push before next, longer, was.counted);
    }

pub returns : goal.returns
returns c =
    let joins : List JoinValue = c.args.joins.now in
    let olds : List (Vec Row Global) = c.loop-right.yielded in
    let right : Vec Row Global = c.in-Some.last_right in
    let was = c.loop-right.invariant in
    let n = length olds in
    let gives = c.into_iter-right-iterator.ensures.into_iter_gives in
    let items = YieldsList-from_vec {s = c.into_iter-right-iterator.result} c.pop.new.self.items gives.0 (gives.1 ∙ c.pop.new.self.ok.0) in
    let done = YieldsList-end items olds c.loop-right.right-iterator c.loop-right.yielded_by c.next.result c.next.new.self c.in-None.is c.next.ensures.steps in
    let whole : c.args.further.items ≡ olds ++ right ∷ [] = c.in-Some.ensures.items ∙ ap (λ (vs : List (Vec Row Global)). vs ++ right ∷ []) (sym done.0 ∙ map-id olds) in
    let longer : length (olds ++ right ∷ []) ≡ n + 1 = length_push olds right in
    let lt : n < length joins = omega (arith, longer, ap length whole, c.requires) in
    let join : JoinValue = c.index-joins-len-2.result in
    let place : c.len-2.result ≡ n = omega (arith, c.len-2.ensures, was.counted) in
    let at : join ≡ get_or joins n join = c.index-joins-len-2.is ∙ ap (λ (k : ℕ). get_or joins k join) place in
    let made : List JoinValue = c.push-2.new.self.items in
    let fills = fills_more joins n join lt at c.args.first.items olds right c.loop-right.filled.items made c.in_ok-last.last c.loop-right.rows.items (length (olds ++ right ∷ [])) longer c.in_ok-push-2.ensures.items c.in_ok-last.ensures.keeps was.fills was.comes in
    let all : take (length (olds ++ right ∷ [])) joins ≡ joins = take_all (length (olds ++ right ∷ [])) joins (omega (arith, ap length whole, c.requires)) in
    subst (λ (vs : List (Vec Row Global)). Fills (map joint_in joins) c.args.first.items (rows_in vs) made) (sym whole)
    (subst (λ (js : List JoinValue). Fills (map joint_in js) c.args.first.items (rows_in (olds ++ right ∷ [])) made) all fills)
