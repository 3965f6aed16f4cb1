use Rattle.std.proofs.Common.{◌≡◌}
use Rattle.std.specs.Prelude.{IsTrue}
use Rattle.std.specs.Vec.Iter.{into_iter_items}
use Rattle.flow_law.specs.Lines.{fit_lines, after_lines}
use Rattle.kept_tables.specs.Slots.{tables_in, AreSlots, HaveRoom}
use Rattle.kept_tables.proofs.making.make_lines.Given as goal

abbrev pub invariant-loop-line : goal.invariant-loop-line
invariant-loop-line l = record {
  order : AreSlots l.slots.items;
  fit : IsTrue (fit_lines (tables_in l.slots.items) (into_iter_items l.line-iterator));
  tables : after_lines (tables_in l.slots.items) (into_iter_items l.line-iterator) ≡ after_lines (tables_in l.fn.slots.items) l.fn.lines.items;
  memory : HaveRoom (into_iter_items l.line-iterator) l.slots.items;
}
