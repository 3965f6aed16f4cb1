use Rattle.std.proofs.Common.{◌≡◌, map, take}
use Rattle.split_op.specs.Labels.{label_in}
use Rattle.operator_law.specs.declared.delta.Signed.{Signed}
use Rattle.split_op.proofs.groups.labels_moved.Given as goal

abbrev pub invariant-loop-m : goal.invariant-loop-m
invariant-loop-m l = l.labels.items ≡ map (λ (m : Signed). label_in m.row) (take l.m-index l.moves)
