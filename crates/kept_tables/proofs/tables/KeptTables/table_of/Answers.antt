use Rattle.std.proofs.Common.{◌∙◌, ap, sym}
use Rattle.std.specs.Option.{option_map}
use Rattle.kept_tables.specs.Kept.{KeptTableValue}
use Rattle.kept_tables.proofs.SlotLemmas.{table_missing, table_read}
use Rattle.kept_tables.proofs.tables.KeptTables.table_of.Goals as goal

pub returns-in_default : goal.returns-in_default
returns-in_default c =
    let gap = rw c.deref.ensures.value at c.in_default.ensures.absent in
    rw (← c.self.view_is) (sym (table_missing c.args.label.now c.self.inside.slots.items c.in_default.field-0 gap))

pub returns : goal.returns
returns c =
    let at = rw c.deref.ensures.value at c.in-Ok.ensures.found in
    rw (← c.self.view_is) (ap (option_map (λ (t : KeptTableValue). t.table)) c.table.ensures
    ∙ table_read c.args.label.now c.self.inside.slots.items c.in-Ok.place c.index.result.now c.self.invariant.slots.labels at c.index.ensures)
