use Rattle.std.proofs.Common.{◌≡◌, take}
use Rattle.split_op.specs.Groups.{grouped}
use Rattle.split_op.specs.Labels.{labels_moved}
use Rattle.split_op.proofs.groups.groups_of.Given as goal

abbrev pub invariant-loop-m : goal.invariant-loop-m
invariant-loop-m l = l.groups.items ≡ grouped (take l.m-index l.m-items) (labels_moved l.change)
