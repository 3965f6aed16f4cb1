use Rattle.std.proofs.Common.{◌≡◌, false, map, take}
use Rattle.std.specs.List.{list_any}
use Rattle.kept_tables.specs.Slots.{tables_in}
use Rattle.view_stack.specs.Limits.{is_wide}
use Rattle.view_stack.specs.Stands.{relation_for}
use Rattle.view_stack.proofs.database.some_wide.Given as goal

abbrev pub invariant-loop-slot : goal.invariant-loop-slot
invariant-loop-slot l = list_any is_wide (map (relation_for l.shape) (tables_in (take l.slot-index l.slots))) ≡ false
