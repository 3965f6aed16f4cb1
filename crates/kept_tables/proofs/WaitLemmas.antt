-- The change that waits.
use Rattle.std.proofs.Common.{◌≡◌, ◌∙◌, List, Option, Some, ap, Global, Vec}
use Rattle.flow_law.specs.declared.line.TableLine.{TableLine}
use Rattle.flow_law.specs.Lines.{after_lines}
use Rattle.kept_tables.specs.declared.slot.Held.{Held as Slot}
use Rattle.kept_tables.specs.declared.tables.Waiting.{Waiting}
use Rattle.kept_tables.specs.Slots.{tables_in}
use Rattle.kept_tables.specs.Waits.{change_of, AreReady}

pub same_waits : (waiting : Option Waiting) (w : Waiting) (lines : Vec TableLine Global) → waiting ≡ Some w → change_of waiting ≡ Some lines → w.of.value ≡ lines
same_waits waiting w lines is waits =
    let at : change_of waiting ≡ Some w.of.value = ap change_of is in
    cc

-- the tables after what waits are those after the change
pub made_for_change : (ss : List Slot) (waiting : Option Waiting) (w : Waiting) (lines : Vec TableLine Global) → waiting ≡ Some w → AreReady ss w → change_of waiting ≡ Some lines
    → after_lines (tables_in ss) w.lines.items ≡ after_lines (tables_in ss) lines.items
made_for_change ss waiting w lines is ready waits =
    ap (after_lines (tables_in ss)) (ready.same ∙ ap (λ (v : Vec TableLine Global). v.items) (same_waits waiting w lines is waits))
