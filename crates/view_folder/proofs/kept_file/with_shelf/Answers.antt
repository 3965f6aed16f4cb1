use Rattle.std.proofs.Common.{◌∙◌, sym}
use Rattle.view_folder.proofs.TableFileLemmas.{spliced_some}
use Rattle.view_folder.proofs.KeptFileLemmas.{row_keyed, none_written, row_written}
use Rattle.view_folder.proofs.kept_file.with_shelf.Goals as goal

pub loop-row-init : goal.loop-row-init
loop-row-init c = none_written c.args.spot c.args.text

pub with_record-requires : goal.with_record-requires
with_record-requires c =
    let key = row_keyed c.args.shelf.now c.loop-row.row-index c.row-item.result c.loop-row-test.true c.row-item.is c.requires in
    spliced_some c.args.spot c.key.result.now c.cells.result.now (λ e. key (sym c.key.ensures ∙ e))

pub loop-row-preserved : goal.loop-row-preserved
loop-row-preserved c =
    row_written c.args.spot c.args.text c.loop-row.text _ c.args.shelf.now c.loop-row.row-index c.row-item.result c.key.result.now c.cells.result.now
    c.loop-row-test.true c.row-item.is c.key.ensures c.cells.ensures c.loop-row.invariant c.in_ok-text.ensures
