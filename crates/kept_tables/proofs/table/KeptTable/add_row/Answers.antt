use Rattle.std.proofs.Common.{◌≡◌, ◌∙◌, [], ap, refl, length, arith}
use Rattle.std.specs.Prelude.{not}
use Rattle.flow_law.specs.declared.line.TableLine.TheVariants.{RowPlus}
use Rattle.flow_law.specs.Tables.{table_value}
use Rattle.flow_law.proofs.TableLemmas.{line_in_order}
use Rattle.kept_tables.proofs.table.KeptTable.add_row.Goals as goal

pub add_row-requires-clause-room : goal.add_row-requires-clause-room
add_row-requires-clause-room c = omega (arith, c.len.ensures, c.self.invariant.cells_room)

pub invariant_of-self : goal.invariant_of-self
invariant_of-self c =
    let count : c.len.result ≡ length c.self.inside.columns.items = c.len.ensures ∙ c.self.inside.columns.ok.0 in
    let absent = rw (← c.self.view_is) at c.requires.absent in
    rw (c.add_row.ensures, count) (record {
      table = line_in_order (RowPlus [] c.args.key) (table_value c.self.inside.columns.items c.self.inside.rows.rows) c.self.invariant.table (ap not absent);
      columns_room = c.self.invariant.columns_room;
      cells_room = c.self.invariant.cells_room;
    })

pub returns : goal.returns
returns c =
    let count : c.len.result ≡ length c.self.inside.columns.items = c.len.ensures ∙ c.self.inside.columns.ok.0 in
    rw (← c.self.view_is, c.add_row.ensures, count) refl
