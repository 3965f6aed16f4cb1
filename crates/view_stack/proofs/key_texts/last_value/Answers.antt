use Rattle.std.proofs.Common.{true, false, sym, ◌∙◌}
use Rattle.view_stack.proofs.CodeLemmas.{value_more}
use Rattle.view_stack.proofs.key_texts.last_value.Goals as goal
use Rattle.view_stack.proofs.key_texts.last_value.Goals.{then-eq, else-eq}

pub loop-column-preserved : goal.loop-column-preserved
loop-column-preserved c =
    elim c.if-eq.branch [
      | then-eq w ↦ value_more c.args.name.now c.args.cells.now c.loop-column.column-index c.loop-column-item.result c.loop-column.last c.if-eq.last true c.loop-column-test.true c.loop-column-item.is c.loop-column.invariant (sym c.eq.ensures ∙ w.if-eq.true) w.last-is
      | else-eq w ↦ value_more c.args.name.now c.args.cells.now c.loop-column.column-index c.loop-column-item.result c.loop-column.last c.if-eq.last false c.loop-column-test.true c.loop-column-item.is c.loop-column.invariant (sym c.eq.ensures ∙ w.if-eq.false) w.last-is
    ]
