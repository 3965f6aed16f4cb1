use Rattle.std.proofs.Common.{◌≡◌, []}
use Rattle.split_op.specs.Groups.{grouped}
use Rattle.split_op.proofs.groups.empty_groups.Given as goal

abbrev pub invariant-loop-label : goal.invariant-loop-label
invariant-loop-label l = l.groups.items ≡ grouped [] l.yielded
