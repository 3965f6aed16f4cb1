use Rattle.view_folder.proofs.KeptFileLemmas.{shelf_keyed, none_written, shelf_written}
use Rattle.view_folder.proofs.kept_file.with_shelves.Goals as goal

pub loop-shelf-init : goal.loop-shelf-init
loop-shelf-init c = none_written c.args.spot c.args.text

pub with_shelf-requires : goal.with_shelf-requires
with_shelf-requires c = shelf_keyed c.args.shelves.now c.loop-shelf.shelf-index c.shelf-item.result c.rows.result.now c.loop-shelf-test.true c.shelf-item.is c.rows.ensures c.requires

pub loop-shelf-preserved : goal.loop-shelf-preserved
loop-shelf-preserved c =
    shelf_written c.args.spot c.args.text c.loop-shelf.text _ c.args.shelves.now c.loop-shelf.shelf-index c.shelf-item.result c.rows.result.now
    c.loop-shelf-test.true c.shelf-item.is c.rows.ensures c.loop-shelf.invariant c.in_ok-text.ensures
