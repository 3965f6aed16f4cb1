use Rattle.std.proofs.Common.{◌≡◌, map, take}
use Rattle.kept_tables.specs.Slots.{full_slot}
use Rattle.kept_tables.proofs.opening.slots_of.Given as goal

abbrev pub invariant-loop-facts : goal.invariant-loop-facts
invariant-loop-facts t l = l.slots.items ≡ map full_slot (take l.facts-index l.tables)
