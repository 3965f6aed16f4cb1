use Rattle.std.proofs.Common.{◌≡◌, ◌≤◌, take}
use Rattle.unfold_op.specs.TableFields.{downs}
use Rattle.unfold_op.proofs.frame.downs.Given as goal

abbrev pub invariant-loop-m : goal.invariant-loop-m
invariant-loop-m l = record {
  counts : l.count ≡ downs (take l.m-index l.moves);
  few : l.count ≤ l.m-index;
}
