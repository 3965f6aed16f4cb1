use Rattle.std.proofs.Common.{◌≡◌, ◌++◌, take}
use Rattle.flow_law.specs.Tables.{labels_of}
use Rattle.change_script.proofs.between.push_labels.Given as goal

abbrev pub invariant-loop-place : goal.invariant-loop-place
invariant-loop-place l = l.labels.items ≡ l.initial.labels.items ++ take l.place (labels_of l.tables)
