use Rattle.std.proofs.Common.{◌+◌, ◌∙◌, length, sym}
use Rattle.std.specs.Prelude.{nat_lt}
use Rattle.schema_model.specs.Limits.{most_attributes}
use Rattle.view_stack.proofs.SlotLemmas.{slot_wide}
use Rattle.view_stack.proofs.database.slot_wide.Goals as goal

pub returns-in-Some : goal.returns-in-Some
returns-in-Some c =
    c.are_many.ensures ∙ (λ i. nat_lt most_attributes (length (c.cells.ensures i) + length (c.columns.ensures.columns i)))
    ∙ sym (slot_wide c.args.shape.now c.args.slot.now c.in-Some.table.now (sym c.in-Some.ensures) c.requires)
