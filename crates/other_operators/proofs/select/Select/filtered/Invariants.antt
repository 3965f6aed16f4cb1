use Rattle.std.proofs.Common.{◌≡◌, take}
use Rattle.operator_law.specs.Rows.{passes, filtered}
use Rattle.other_operators.proofs.select.Select.filtered.Given as goal

abbrev pub invariant-loop-m : goal.invariant-loop-m
invariant-loop-m l = l.moves.items ≡ filtered (passes l.self.left l.self.op_equal l.self.right) (take l.m-index l.m-items)
