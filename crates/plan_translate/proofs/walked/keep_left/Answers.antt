use Rattle.std.proofs.Common.{◌≡◌, ◌<◌, ◌++◌, List, length, map, take, drop, get_or, set, arith, ap, sym, ◌∙◌}
use Rattle.operator_law.specs.declared.delta.Signed.{Signed}
use Rattle.plan_translate.specs.ChainStages.{side_moves}
use Rattle.plan_translate.proofs.Each.{Pair, written}
use Rattle.plan_translate.proofs.Emptied.{emptied, left_of, emptied_long, emptied_more, emptied_all}
use Rattle.plan_translate.proofs.walked.keep_left.Goals as goal

pub loop-side-init : goal.loop-side-init
loop-side-init c = c.deref_mut-side-items.ensures.value

pub loop-side-preserved : goal.loop-side-preserved
loop-side-preserved c =
    let xs : List Pair = c.args.sides.now.items in
    let ys : List Pair = c.loop-side.side-items in
    let i = c.loop-side.side-index in
    let side : Pair = c.side-item.result in
    let long : length ys ≡ length xs = ap length c.loop-side.invariant ∙ emptied_long i xs in
    let lt : i < length ys = omega arith in
    let left : List Signed = (get_or ys i side).0 in
    ap (λ (rows : List Signed). set ys i (left, rows)) c.new.ensures.items
    ∙ ap (λ (m : Pair). set ys i (left_of m)) (sym c.side-item.is)
    ∙ emptied_more i xs ys side (omega (arith, lt, long)) c.loop-side.invariant c.side-item.is

pub returns : goal.returns
returns c =
    let xs : List Pair = c.args.sides.now.items in
    let ys : List Pair = c.loop-side.side-items in
    let i = c.loop-side.side-index in
    let long : length ys ≡ length xs = ap length c.loop-side.invariant ∙ emptied_long i xs in
    let end : i ≡ length xs = omega (arith, long) in
    let whole : take c.args.sides.now.len (ys ++ drop (length ys) xs) ≡ ys = written c.args.sides.now.len ys xs (omega (arith, long)) in
    ap (map side_moves) (whole ∙ c.loop-side.invariant ∙ ap (λ n. emptied n xs) end) ∙ emptied_all xs
