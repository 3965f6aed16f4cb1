use Rattle.std.proofs.Common.{[], ◌∙◌, ap, sym, Some}
use Rattle.std.proofs.lemmas.List.{get_or_read}
use Rattle.ss_text.specs.Texts.{Text}
use Rattle.flow_law.specs.Tables.{TableValue, empty_table}
use Rattle.flow_law.proofs.LabelLemmas.{table_found, table_missing}
use Rattle.flow_law.proofs.tables.Tables.table_of.Goals as goal

pub returns-in-Ok : goal.returns-in-Ok
returns-in-Ok c =
    let there = rw (← c.self.view_is) at c.in-Ok.ensures.found in
    rw (← c.self.view_is) (ap (λ (p : Text × TableValue). Some p.1) (get_or_read c.self.inside.tables.items c.in-Ok.place c.index.result.now there.within c.index.ensures ([], empty_table))
    ∙ sym (table_found c.self.inside.tables.items c.args.label.now c.in-Ok.place c.self.invariant there))

pub returns-in-Err : goal.returns-in-Err
returns-in-Err c = sym (table_missing c.args.self.now c.args.label.now c.in-Err.field-0 c.in-Err.ensures.absent)
