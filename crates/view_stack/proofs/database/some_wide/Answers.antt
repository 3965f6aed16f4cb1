use Rattle.std.proofs.Common.{◌∙◌, sym}
use Rattle.ss_text.specs.Texts.{Text}
use Rattle.flow_law.specs.Tables.{TableValue}
use Rattle.change_script.specs.Fits.{TableFits}
use Rattle.kept_tables.proofs.ThereLemmas.{each_there}
use Rattle.view_stack.proofs.SlotLemmas.{wide_there, none_wide}
use Rattle.view_stack.proofs.database.some_wide.Goals as goal

pub slot_wide-requires : goal.slot_wide-requires
slot_wide-requires c =
    each_there (λ (p : Text × TableValue). TableFits c.args.shape.now p.0 p.1) c.args.slots.now c.loop-slot.slot-index c.slot-item.result c.loop-slot-test.true c.slot-item.is c.requires

pub returns-then-slot_wide : goal.returns-then-slot_wide
returns-then-slot_wide c =
    sym (wide_there c.args.shape.now c.args.slots.now c.loop-slot.slot-index c.slot-item.result c.loop-slot-test.true c.slot-item.is (sym c.slot_wide.ensures ∙ c.if-slot_wide.true))

pub loop-slot-preserved : goal.loop-slot-preserved
loop-slot-preserved c =
    none_wide c.args.shape.now c.args.slots.now c.loop-slot.slot-index c.slot-item.result c.loop-slot-test.true c.slot-item.is c.loop-slot.invariant (sym c.slot_wide.ensures ∙ c.if-slot_wide.false)
