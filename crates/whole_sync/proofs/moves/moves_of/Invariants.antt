use Rattle.std.proofs.Common.{◌≡◌, ◌++◌, drop}
use Rattle.whole_sync.specs.Protocol.{moves_of, removing}
use Rattle.whole_sync.proofs.moves.moves_of.Given as goal

abbrev pub invariant-loop-edit : goal.invariant-loop-edit
invariant-loop-edit l = moves_of l.edits l.beside ≡ l.moves.items ++ removing (drop l.edit-index l.edits)
