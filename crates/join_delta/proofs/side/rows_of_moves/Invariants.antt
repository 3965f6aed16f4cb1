use Rattle.std.proofs.Common.{◌≡◌, cond, take}
use Rattle.join_delta.specs.Ready.{ups_of, downs_of}
use Rattle.join_delta.proofs.side.rows_of_moves.Given as goal

abbrev pub invariant-loop-m : goal.invariant-loop-m
invariant-loop-m l = l.rows.items ≡ cond l.up (ups_of (take l.m-index l.moves)) (downs_of (take l.m-index l.moves))
