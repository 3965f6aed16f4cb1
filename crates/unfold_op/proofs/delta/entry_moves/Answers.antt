use Rattle.std.proofs.Common.{◌++◌, ◌∷◌, [], ◌∙◌, ap, sym, List, Option, take}
use Rattle.std.specs.Prelude.{option_to_list}
use Rattle.std.specs.List.{filter_map}
use Rattle.counts.specs.declared.moves.Move.{Move}
use Rattle.operator_law.specs.declared.delta.Signed.{Signed}
use Rattle.unfold_op.specs.Touched.{Entry}
use Rattle.unfold_op.specs.FactMoves.{entry_move}
use Rattle.unfold_op.proofs.Picked.{given_more, one_given}
use Rattle.unfold_op.proofs.delta.entry_moves.Goals as goal

pub loop-m-preserved : goal.loop-m-preserved
loop-m-preserved c =
    let h : Signed → Option (Move Entry) = entry_move c.args.shape.now in
    let at = c.m-item.result in
    c.in_ok-push_entry.ensures ∙ ap (λ (o : Option (Move Entry)). c.loop-m.entries.items ++ option_to_list o) c.in_ok-entry.ensures
    ∙ ap (λ (es : List (Move Entry)). c.loop-m.entries.items ++ es) (one_given h at)
    ∙ ap (λ (es : List (Move Entry)). es ++ filter_map h (at ∷ [])) c.loop-m.invariant
    ∙ ap (λ (m : Signed). filter_map h (take c.loop-m.m-index c.args.moves.now) ++ filter_map h (m ∷ [])) c.m-item.is
    ∙ sym (given_more h c.args.moves.now c.loop-m.m-index at c.loop-m-test.true)
