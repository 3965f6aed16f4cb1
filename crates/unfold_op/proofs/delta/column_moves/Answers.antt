use Rattle.std.proofs.Common.{◌++◌, ◌∷◌, [], ◌∙◌, ap, sym, List, Option, take}
use Rattle.std.specs.Prelude.{option_to_list}
use Rattle.std.specs.List.{filter_map}
use Rattle.counts.specs.declared.moves.Move.{Move}
use Rattle.operator_law.specs.declared.delta.Signed.{Signed}
use Rattle.ss_text.specs.Texts.{Text}
use Rattle.unfold_op.specs.FactMoves.{column_move}
use Rattle.unfold_op.proofs.Picked.{given_more, one_given}
use Rattle.unfold_op.proofs.delta.column_moves.Goals as goal

pub loop-m-preserved : goal.loop-m-preserved
loop-m-preserved c =
    let h : Signed → Option (Move Text) = column_move c.args.shape.now in
    let at = c.m-item.result in
    c.in_ok-push_column.ensures ∙ ap (λ (o : Option (Move Text)). c.loop-m.columns.items ++ option_to_list o) c.in_ok-column.ensures
    ∙ ap (λ (es : List (Move Text)). c.loop-m.columns.items ++ es) (one_given h at)
    ∙ ap (λ (es : List (Move Text)). es ++ filter_map h (at ∷ [])) c.loop-m.invariant
    ∙ ap (λ (m : Signed). filter_map h (take c.loop-m.m-index c.args.moves.now) ++ filter_map h (m ∷ [])) c.m-item.is
    ∙ sym (given_more h c.args.moves.now c.loop-m.m-index at c.loop-m-test.true)
