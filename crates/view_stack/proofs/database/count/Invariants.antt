use Rattle.std.proofs.Common.{◌≡◌, ◌≤◌, length, take}
use Rattle.kept_tables.specs.Slots.{tables_in}
use Rattle.view_stack.proofs.database.count.Given as goal

abbrev pub invariant-loop-slot : goal.invariant-loop-slot
invariant-loop-slot l = record { count : l.count ≡ length (tables_in (take l.slot-index l.slots)); few : l.count ≤ l.slot-index }
