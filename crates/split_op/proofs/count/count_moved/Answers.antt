use Rattle.std.proofs.Common.{◌≡◌, ◌≤◌, ◌<◌, ◌+◌, ◌^◌, ◌∙◌, List, sym, subst, arith}
use Rattle.operator_law.specs.declared.delta.Signed.{Signed}
use Rattle.unfold_op.specs.TableFields.{ups, downs}
use Rattle.unfold_op.proofs.BagMoves.{totals_move}
use Rattle.split_op.proofs.count.count_moved.Goals as goal

pub total_after-requires-clause-enough : goal.total_after-requires-clause-enough
total_after-requires-clause-enough c =
    let f = c.requires in
    subst (λ (ns : List Signed). downs ns ≤ c.args.before + ups ns) (sym (c.deref.ensures.value ∙ c.change.view_is)) (omega (arith, f.2, totals_move f.0 f.1 c.args.change.now f.3))

pub total_after-requires-clause-small : goal.total_after-requires-clause-small
total_after-requires-clause-small c =
    let f = c.requires in
    subst (λ (ns : List Signed). c.args.before + ups ns < 2 ^ 128 + downs ns) (sym (c.deref.ensures.value ∙ c.change.view_is)) (omega (arith, f.2, f.4, totals_move f.0 f.1 c.args.change.now f.3))

pub returns : goal.returns
returns c = λ old new before moves.
    let counted = subst (λ (ns : List Signed). c.args.before + ups ns ≡ c.total_after.result + downs ns) (c.deref.ensures.value ∙ c.change.view_is) c.total_after.ensures in
    omega (arith, before, counted, totals_move old new c.args.change.now moves)
