-- When lines that wait can be made.
use Rattle.std.specs.Prelude.{◌≡◌, Vec, Option, Some, List, IsTrue, option_map}
use Rattle.std.proofs.Common.{Global}
use Rattle.flow_law.specs.declared.line.TableLine.{TableLine}
use Rattle.flow_law.specs.Lines.{fit_lines}
use Rattle.kept_tables.specs.declared.slot.Held.{Held as Slot}
use Rattle.kept_tables.specs.declared.tables.Waiting.{Waiting}
use Rattle.kept_tables.specs.Slots.{tables_in, AreSlots, HaveRoom}

-- the change that waits
abbrev pub change_of : Option Waiting → Option (Vec TableLine Global)
change_of waiting = option_map (λ (w : Waiting). w.of.value) waiting

-- the lines are those of the change, they fit one after the other, and there is memory for what they add
pub record AreReady (ss : List Slot) (w : Waiting) : Type 0 where
  pub same : w.lines.items ≡ w.of.value.items
  pub fit : IsTrue (fit_lines (tables_in ss) w.lines.items)
  pub memory : HaveRoom w.lines.items ss

-- labels ascend, and what waits is ready
pub record AreKept (ss : Vec Slot Global) (waiting : Option Waiting) : Type 0 where
  pub slots : AreSlots ss.items
  pub ready : (w : Waiting) → waiting ≡ Some w → AreReady ss.items w
