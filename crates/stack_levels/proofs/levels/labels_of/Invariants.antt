use Rattle.std.proofs.Common.{◌≡◌, map, take}
use Rattle.stack_levels.specs.States.{level_labels}
use Rattle.stack_levels.proofs.levels.labels_of.Given as goal

abbrev pub invariant-loop-level : goal.invariant-loop-level
invariant-loop-level l = l.all.items ≡ map level_labels (take l.level-index l.levels)
