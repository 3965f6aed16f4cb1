use Rattle.std.proofs.Common.{◌≡◌, take}
use Rattle.stack_answers.specs.Folders.{opening_labels}
use Rattle.stack_answers.proofs.folders.opening_labels.Given as goal

abbrev pub invariant-loop-name : goal.invariant-loop-name
invariant-loop-name l = l.labels.items ≡ opening_labels l.tables.tables (take l.name-index l.names)
