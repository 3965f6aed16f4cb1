use Rattle.std.proofs.Common.{◌≡◌, ◌+◌, take}
use Rattle.kept_tables.specs.Slots.{tables_in}
use Rattle.schema_model.specs.Limits.{most_rows}
use Rattle.view_stack.specs.Limits.{row_total}
use Rattle.view_stack.proofs.database.room_left.Given as goal

abbrev pub invariant-loop-slot : goal.invariant-loop-slot
invariant-loop-slot l = l.room + row_total (tables_in (take l.slot-index l.slots)) ≡ most_rows
