use Rattle.std.proofs.Common.{◌<◌, ◌++◌, ◌∙◌, List, ap, length, arith}
use Rattle.std.specs.Prelude.{filter_map}
use Rattle.ss_text.specs.Texts.{Row}
use Rattle.flow_law.specs.Tables.{row_at}
use Rattle.flow_law.specs.Script.{cell_line}
use Rattle.flow_law.specs.declared.line.TableLine.{TableLine}
use Rattle.change_script.proofs.BetweenLemmas.{rows_more}
use Rattle.change_script.proofs.between.push_cells.Goals as goal

pub loop-row-preserved : goal.loop-row-preserved
loop-row-preserved c =
    let lt : c.loop-row.row < length c.args.new.now.rows = omega arith in
    let f = λ (key : Row). filter_map (cell_line c.args.label.now c.args.old.now c.args.new.now key) c.args.new.now.columns in
    c.in_ok-push_cells_of.ensures ∙ ap (λ (ys : List TableLine). ys ++ f (row_at c.loop-row.row c.args.new.now).0) c.loop-row.invariant ∙ rows_more f c.args.new.now c.args.lines.now.items c.loop-row.row lt
