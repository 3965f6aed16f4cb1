use Rattle.std.proofs.Common.{◌≡◌, take}
use Rattle.unite_op.specs.NamedThings.{moves_behind}
use Rattle.unite_op.proofs.behind.moves_behind.Given as goal

abbrev pub invariant-loop-m : goal.invariant-loop-m
invariant-loop-m l = l.moves.items ≡ moves_behind l.names (take l.m-index l.m-items)
