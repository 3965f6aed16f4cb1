use Rattle.std.proofs.Common.{◌≡◌, ◌<◌, [], Bool, true, refl, ap, sym, length, arith}
use Rattle.std.specs.Prelude.{◌&&◌}
use Rattle.ss_text.specs.Texts.{Row, row_eq}
use Rattle.ss_text.specs.Places.{changed_where}
use Rattle.ss_text.proofs.GroupLemmas.{all_weaker}
use Rattle.flow_law.specs.declared.line.TableLine.TheVariants.{Cell}
use Rattle.flow_law.specs.Tables.{table_value}
use Rattle.flow_law.specs.Lines.{with_cell_at}
use Rattle.flow_law.proofs.TableLemmas.{place_of_column, line_in_order}
use Rattle.kept_tables.specs.Kept.{kept_table}
use Rattle.kept_tables.proofs.table.KeptTable.set_cell.Goals as goal

both : {a b : Bool} → a ≡ true → b ≡ true → (a && b) ≡ true
both p q = rw (p, q) refl

pub set_cell-requires-clause-cells : goal.set_cell-requires-clause-cells
set_cell-requires-clause-cells c =
    let there = rw (← c.self.view_is) at c.in-Ok.ensures.found in
    let columns = c.self.inside.columns.items in
    all_weaker (λ (r : Row × Row). length r.1 ≡ length columns) (λ (r : Row × Row). c.in-Ok.place < length r.1) (λ r e. omega (arith, e, there.within)) c.self.inside.rows.rows c.self.invariant.table.cells

pub invariant_of-self : goal.invariant_of-self
invariant_of-self c =
    let t = table_value c.self.inside.columns.items c.self.inside.rows.rows in
    let there = rw (← c.self.view_is) at c.in-Ok.ensures.found in
    let row_there = rw (← c.self.view_is) at c.requires.row_there in
    let column_there = rw (← c.self.view_is) at c.requires.column_there in
    let place = place_of_column t c.args.column.now c.in-Ok.place c.self.invariant.table there in
    rw (c.set_cell.ensures, sym place) (record {
      table = line_in_order (Cell [] c.args.column.now c.args.value c.args.key.now) t c.self.invariant.table (both row_there column_there);
      columns_room = c.self.invariant.columns_room;
      cells_room = c.self.invariant.cells_room;
    })

pub returns : goal.returns
returns c =
    let t = table_value c.self.inside.columns.items c.self.inside.rows.rows in
    let there = rw (← c.self.view_is) at c.in-Ok.ensures.found in
    let place = place_of_column t c.args.column.now c.in-Ok.place c.self.invariant.table there in
    rw (← c.self.view_is, c.set_cell.ensures)
    (ap (λ n. kept_table (table_value t.columns (changed_where (λ (r : Row × Row). row_eq c.args.key.now r.0) (with_cell_at n c.args.value) t.rows)) c.self.inside.rows.coming c.self.inside.coming) (sym place))
