use Rattle.std.proofs.Common.{◌≡◌, ◌<◌, ◌+◌, ◌++◌, ◌∷◌, [], ◌∙◌, ℕ, List, length, take, get_or, arith, ap, sym}
use Rattle.std.proofs.lemmas.List.{length_push}
use Rattle.std.proofs.lemmas.Iterator.Adapters.{YieldsList-from_vec}
use Rattle.std.proofs.lemmas.Iterator.Consumers.{YieldsList-turn}
use Rattle.operator_law.specs.declared.delta.Signed.{Signed}
use Rattle.plan_translate.specs.Parts.{passing, each_passing, own_tests}
use Rattle.plan_translate.proofs.OwnMoves.{each_more}
use Rattle.plan_translate.proofs.own.each_passing.Goals as goal

pub loop-delta-preserved : goal.loop-delta-preserved
loop-delta-preserved c =
    let olds : List (List Signed) = c.loop-delta.yielded in
    let owns : List (List Signed) = c.loop-delta.own.items in
    let delta : List Signed = c.in-Some.delta in
    let pass : List Signed = c.in_ok-passing.field-0 in
    let tests = c.args.tests.now in
    let n = length olds in
    let gives = c.into_iter-delta-iterator.ensures.into_iter_gives in
    let all = YieldsList-from_vec {s = c.into_iter-delta-iterator.result} c.args.deltas.items gives.0 (gives.1 ∙ c.args.deltas.ok.0) in
    let turn = YieldsList-turn all olds c.loop-delta.delta-iterator c.loop-delta.yielded_by c.next.result c.next.new.self delta c.in-Some.is c.next.ensures.steps in
    let lt : n < length tests = omega (arith, turn.0, c.requires) in
    let test = c.index-tests-len.result in
    let place : c.len.result ≡ n = omega (arith, c.len.ensures, c.loop-delta.invariant.counted) in
    let at : test ≡ get_or tests n test = c.index-tests-len.is ∙ ap (λ (k : ℕ). get_or tests k test) place in
    let here : pass ≡ passing test.items delta = c.in_ok-passing.ensures ∙ ap (λ ts. passing ts delta) c.deref.ensures.value in
    record {
      passing =
          c.in_ok-push.ensures.items
          ∙ ap (λ (l : List (List Signed)). l ++ pass ∷ []) c.loop-delta.invariant.passing
          ∙ ap (λ (ms : List Signed). each_passing (own_tests (take n tests)) olds ++ ms ∷ []) here
          ∙ sym (each_more tests olds test delta lt at);
      counted = ap length c.in_ok-push.ensures.items ∙ length_push owns pass ∙ ap (λ (k : ℕ). k + 1) c.loop-delta.invariant.counted ∙ sym (length_push olds delta);
    }
