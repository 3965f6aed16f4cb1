use Rattle.std.proofs.Common.{◌≡◌, take}
use Rattle.flow_law.specs.Tables.{labels_of}
use Rattle.plain_commands.proofs.lines.labels_of.Given as goal

abbrev pub invariant-loop-place : goal.invariant-loop-place
invariant-loop-place l = l.labels.items ≡ take l.place (labels_of l.tables)
