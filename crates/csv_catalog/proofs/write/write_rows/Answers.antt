use Rattle.std.proofs.Common.{◌+◌, map, drop, arith}
use Rattle.csv_catalog.specs.Written.{written}
use Rattle.csv_catalog.proofs.WritingLemmas.{next_borrowed, row_more, no_row, none_borrowed}
use Rattle.csv_catalog.proofs.write.write_rows.Goals as goal

pub loop-row-preserved : goal.loop-row-preserved
loop-row-preserved c =
    let rows = c.args.rows.now in
    let i = c.loop-row.row-index in
    let inv = rw (next_borrowed rows i c.row-item.result c.loop-row-test.true c.row-item.is) at c.loop-row.invariant in
    record {
      between = c.in_ok-write_row.ensures.between;
      text = row_more (written c.args.writer.now) (written c.loop-row.writer) (written c.write_row.new.writer) c.row-item.result.now (map (λ r. r.now) (drop (i + 1) rows)) (map (λ r. r.now) rows) inv.text c.in_ok-write_row.ensures.text;
      some = inv.some.1;
    }

pub returns-clause-text : goal.returns-clause-text
returns-clause-text c =
    no_row (written c.args.writer.now) (written c.loop-row.writer) (map (λ r. r.now) c.args.rows.now) (rw (none_borrowed c.args.rows.now c.loop-row.row-index (omega arith)) at c.loop-row.invariant.text)
