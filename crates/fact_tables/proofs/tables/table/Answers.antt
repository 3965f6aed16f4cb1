use Rattle.std.proofs.Common.{arith, length-drop}
use Rattle.std.specs.List.{filter_map}
use Rattle.flow_law.specs.Facts.{Fact, column_of}
use Rattle.ss_text.proofs.GroupLemmas.{strict_ascending}
use Rattle.ss_text.proofs.KeyLemmas.{text_order, row_order}
use Rattle.ss_text.proofs.GroupWalk.{own_sorted, key_fits, some_count, one_more_entry}
use Rattle.flow_law.specs.FactOrder.{by_cell}
use Rattle.fact_tables.specs.Cells.{cells_for}
use Rattle.fact_tables.proofs.TableRows.{filled}
use Rattle.fact_tables.proofs.tables.table.Goals as goal

pub of_columns-table-requires : goal.of_columns-table-requires
of_columns-table-requires t c = rw (c.in_ok-copies.ensures, c.deref.ensures.value, c.in_ok-columns.ensures) (strict_ascending text_order.total (filter_map column_of c.args.facts.now))

pub cells-requires : goal.cells-requires
cells-requires t c =
    let counts = rw c.facts_from-left.ensures at c.key_count-count.ensures.count in
    rw c.facts_from-left.ensures (own_sorted row_order (λ (f : Fact). f.key) by_cell (cells_for c.in_ok-columns.columns.items) c.args.facts.now c.requires c.loop-first.from c.in-Some.first.now c.in-Some.ensures.fact c.key_count-count.result counts)

pub put_row-requires-clause-order : goal.put_row-requires-clause-order
put_row-requires-clause-order t c =
    let counts = rw c.facts_from-left.ensures at c.key_count-count.ensures.count in
    rw c.in_ok-key.ensures
    (key_fits row_order (λ (f : Fact). f.key) by_cell (cells_for c.in_ok-columns.columns.items) c.args.facts.now c.requires c.loop-first.from c.in-Some.first.now c.in-Some.ensures.fact c.key_count-count.result counts c.loop-first.table.rows c.loop-first.invariant.rows)

pub loop-first-smaller : goal.loop-first-smaller
loop-first-smaller t c =
    let counts = rw c.facts_from-left.ensures at c.key_count-count.ensures.count in
    let some = some_count row_order (λ (f : Fact). f.key) by_cell (cells_for c.in_ok-columns.columns.items) c.args.facts.now c.requires c.loop-first.from c.in-Some.first.now c.in-Some.ensures.fact c.key_count-count.result counts in
    omega (arith, c.in-Some.ensures.there)

pub loop-first-preserved : goal.loop-first-preserved
loop-first-preserved t c =
    let fs = c.args.facts.now in
    let from = c.loop-first.from in
    let columns = c.in_ok-columns.columns.items in
    let counts = rw c.facts_from-left.ensures at c.key_count-count.ensures.count in
    let within = rw c.facts_from-left.ensures at c.key_count-count.ensures.within in
    let cells = rw (c.deref-in-Some.ensures.value, c.facts_from-left.ensures) at c.in_ok-cells.ensures in
    record {
      columns = rw c.in_ok-put_row.ensures.ok c.loop-first.invariant.columns;
      rows = rw (c.in_ok-put_row.ensures.ok, c.in_ok-key.ensures, cells) (one_more_entry row_order (λ (f : Fact). f.key) by_cell (cells_for columns) fs c.requires from c.in-Some.first.now c.in-Some.ensures.fact c.key_count-count.result counts c.loop-first.table.rows c.loop-first.invariant.rows);
      within = omega (arith, within, length-drop from fs);
    }

pub returns : goal.returns
returns t c = filled c.loop-first.table c.in_ok-columns.columns.items c.args.facts.now c.loop-first.from c.in_default.ensures.fact c.in_ok-columns.ensures c.loop-first.invariant.columns c.loop-first.invariant.rows
