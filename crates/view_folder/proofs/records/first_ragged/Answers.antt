use Rattle.std.proofs.Common.{◌≡◌, ◌∙◌, length, ap, sym, arith}
use Rattle.ss_text.specs.Texts.{Row}
use Rattle.view_folder.proofs.RecordLemmas.{ragged_here, ragged_more, ragged_end}
use Rattle.view_folder.proofs.records.first_ragged.Goals as goal

pub returns-then-got-want : goal.returns-then-got-want
returns-then-got-want c =
    let got : length c.cells-got.result.now ≡ length c.row-item.result = ap (λ (r : Row). length r) c.cells-got.ensures in
    rw got (sym (ragged_here c.args.want c.loop-row.nth c.loop-row.row-index c.args.rows.now c.loop-row.invariant.left c.row-item.result c.loop-row-test.true c.row-item.is (λ e. c.if-got-want.true (got ∙ e))))

pub loop-row-preserved : goal.loop-row-preserved
loop-row-preserved c =
    let got : length c.cells-got.result.now ≡ length c.row-item.result = ap (λ (r : Row). length r) c.cells-got.ensures in
    record {
      counted = omega (arith, c.loop-row.invariant.counted);
      left = ragged_more c.args.want c.loop-row.nth c.loop-row.row-index c.args.rows.now c.loop-row.invariant.left c.row-item.result c.loop-row-test.true c.row-item.is (sym got ∙ c.if-got-want.false);
    }

pub returns : goal.returns
returns c = sym (ragged_end c.args.want c.loop-row.nth c.loop-row.row-index c.args.rows.now c.loop-row.invariant.left c.loop-row-test.false)
