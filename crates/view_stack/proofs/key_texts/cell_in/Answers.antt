use Rattle.std.proofs.Common.{◌∙◌, sym}
use Rattle.std.specs.Option.{option_copied}
use Rattle.flow_law.proofs.CellLemmas.{cell_at_place, cell_missing}
use Rattle.flow_law.proofs.TableLemmas.{own_keys}
use Rattle.view_stack.proofs.CodeLemmas.{cell_found}
use Rattle.view_stack.proofs.key_texts.cell_in.Goals as goal

pub returns-in-Ok : goal.returns-in-Ok
returns-in-Ok c =
    cell_found c.args.cells.now c.in-Ok.place (option_copied c.text_at.result) c.text_at.ensures
    ∙ sym (cell_at_place c.args.columns.now c.args.cells.now c.in-Ok.place c.args.column.now (own_keys c.args.columns.now c.requires) c.in-Ok.ensures.found)

pub returns-in-Err : goal.returns-in-Err
returns-in-Err c = sym (cell_missing c.args.columns.now c.args.cells.now c.in-Err.field-0 c.args.column.now c.in-Err.ensures.absent)
