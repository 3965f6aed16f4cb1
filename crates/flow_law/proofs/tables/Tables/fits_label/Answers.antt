use Rattle.std.proofs.Common.{[], sym, ◌∙◌, ap}
use Rattle.std.proofs.lemmas.List.{get_or_read}
use Rattle.ss_text.specs.Texts.{Text}
use Rattle.flow_law.specs.Tables.{TableValue, empty_table}
use Rattle.flow_law.specs.Lines.{fits_table}
use Rattle.flow_law.proofs.LabelLemmas.{fits_found, fits_missing}
use Rattle.flow_law.proofs.tables.Tables.fits_label.Goals as goal

pub returns-in-Ok : goal.returns-in-Ok
returns-in-Ok c =
    let there = rw (← c.self.view_is, c.label.ensures) at c.in-Ok.ensures.found in
    rw (← c.self.view_is) (c.fits.ensures
    ∙ ap (λ (p : Text × TableValue). fits_table c.args.line.now p.1) (get_or_read c.self.inside.tables.items c.in-Ok.place c.index.result.now there.within c.index.ensures ([], empty_table))
    ∙ sym (fits_found c.self.inside.tables.items c.args.line.now c.in-Ok.place c.self.invariant there))

pub returns-in-Err : goal.returns-in-Err
returns-in-Err c = sym (fits_missing c.args.self.now c.args.line.now c.in-Err.field-0 (rw c.label.ensures at c.in-Err.ensures.absent))
