use Rattle.std.proofs.Common.{refl}
use Rattle.unfold_op.proofs.lines.outer_lines.Goals as goal

pub returns : goal.returns
returns c =
    rw (c.in_ok-push_rows_new.ensures, c.deref-4.ensures.value, c.in_ok-begun-2.ensures, c.in_ok-push_columns_new.ensures, c.deref-3.ensures.value, c.in_ok-begun.ensures, c.in_ok-push_columns_gone.ensures, c.deref-2.ensures.value, c.in_ok-gone-2.ensures, c.in_ok-push_rows_gone.ensures, c.deref.ensures.value, c.in_ok-gone.ensures, c.new-lines.ensures.items) refl
