use Rattle.std.proofs.Common.{◌≡◌, take}
use Rattle.flow_law.specs.Tables.{labels_of}
use Rattle.kept_tables.specs.Slots.{tables_in}
use Rattle.kept_tables.proofs.labels.labels_of.Given as goal

abbrev pub invariant-loop-slot : goal.invariant-loop-slot
invariant-loop-slot l = l.labels.items ≡ labels_of (tables_in (take l.slot-index l.slots))
