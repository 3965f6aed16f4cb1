use Rattle.std.proofs.Common.{refl}
use Rattle.unfold_op.proofs.lines.clash_or_lines.Goals as goal

pub returns-clause-ok : goal.returns-clause-ok
returns-clause-ok c = rw (c.in_ok-lines.ensures, c.deref-3.ensures.value, c.deref-4.ensures.value, c.in_ok-present.ensures, c.in_ok-places.ensures, c.tallies.ensures) refl
