use Rattle.std.proofs.Common.{[], ◌∙◌, sym, arith}
use Rattle.flow_law.proofs.CellLemmas.{cell_at_place, cell_missing}
use Rattle.flow_law.proofs.TableLemmas.{own_keys}
use Rattle.flow_law.proofs.table.Table.cell_in.Goals as goal

pub returns-in_default : goal.returns-in_default
returns-in_default c = sym (cell_missing c.args.self.now.columns c.args.cells.now c.in_default.field-0 c.args.column.now c.in_default.ensures.absent)

pub returns-in-Some : goal.returns-in-Some
returns-in-Some c =
    let at = cell_at_place c.args.self.now.columns c.args.cells.now c.in-Ok.place c.args.column.now (own_keys c.args.self.now.columns c.find_column.ensures.in_order.columns) c.in-Ok.ensures.found in
    c.as_slice.ensures ∙ c.in-Some.ensures.lookup.4 (omega arith) [] ∙ sym at

pub returns-in-None : goal.returns-in-None
returns-in-None c =
    let at = cell_at_place c.args.self.now.columns c.args.cells.now c.in-Ok.place c.args.column.now (own_keys c.args.self.now.columns c.find_column.ensures.in_order.columns) c.in-Ok.ensures.found in
    c.in-None.ensures.lookup.4 (omega arith) [] ∙ sym at
