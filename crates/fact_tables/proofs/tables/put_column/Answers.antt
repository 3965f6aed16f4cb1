use Rattle.std.proofs.Common.{◌∙◌, sym}
use Rattle.ss_text.proofs.KeyLemmas.{text_order, placed_for}
use Rattle.fact_tables.proofs.ColumnLemmas.{no_more}
use Rattle.fact_tables.proofs.tables.put_column.Goals as goal

pub returns-in-Ok : goal.returns-in-Ok
returns-in-Ok c =
    let place = rw c.deref.ensures.value at c.in-Ok.ensures.found in
    sym (no_more c.args.column.now c.args.columns.now.items c.in-Ok.field-0 c.requires place)

pub returns-in_ok-insert-in-Err : goal.returns-in_ok-insert-in-Err
returns-in_ok-insert-in-Err c =
    let place = rw c.deref.ensures.value at c.in-Err.ensures.absent in
    c.in_ok-insert-in-Err.ensures.items ∙ rw c.again.ensures (sym (placed_for text_order (λ x. x) c.args.column.now c.args.columns.now.items c.in-Err.place place))
