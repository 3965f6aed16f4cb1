use Rattle.std.proofs.Common.{◌≡◌, take}
use Rattle.stack_levels.specs.States.{databases_of}
use Rattle.stack_levels.proofs.levels.databases_of.Given as goal

abbrev pub invariant-loop-level : goal.invariant-loop-level
invariant-loop-level l = l.names.items ≡ databases_of (take l.level-index l.levels)
