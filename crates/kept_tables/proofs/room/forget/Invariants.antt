use Rattle.std.proofs.Common.{◌≡◌}
use Rattle.kept_tables.specs.Slots.{tables_in, AreSlots}
use Rattle.kept_tables.proofs.room.forget.Given as goal

abbrev pub invariant-loop-line : goal.invariant-loop-line
invariant-loop-line l = record {
  order : AreSlots l.slots.items;
  tables : tables_in l.slots.items ≡ tables_in l.fn.slots.items;
}
