use Rattle.std.proofs.Common.{◌≡◌, take}
use Rattle.operator_law.specs.Rows.{projected}
use Rattle.other_operators.proofs.project.Project.projected.Given as goal

abbrev pub invariant-loop-m : goal.invariant-loop-m
invariant-loop-m l = l.moves.items ≡ projected l.self.places.items (take l.m-index l.m-items)
