use Rattle.std.proofs.Common.{◌∙◌, ap, arith}
use Rattle.schema_model.specs.States.{settled}
use Rattle.view_stack.proofs.PutLemmas.{none_put, row_fits, row_put}
use Rattle.view_stack.proofs.database.put_shelf.Goals as goal

pub loop-row-init : goal.loop-row-init
loop-row-init c = c.requires.settled ∙ ap settled (none_put c.args.spot c.args.rel c.args.catalogue.now.databases)

pub put_row-requires-clause-relation_there : goal.put_row-requires-clause-relation_there
put_row-requires-clause-relation_there c =
    let fits = row_fits c.args.spot c.args.rel c.args.catalogue.now.databases c.args.shelf.now c.loop-row.row-index c.row-item.result c.key.result.now c.cells.result.now c.in_ok-record.record c.loop-row.catalogue
    c.loop-row-test.true c.row-item.is c.key.ensures c.cells.ensures c.in_ok-record.ensures c.loop-row.invariant c.requires.takes in
    fits.relation

pub put_row-requires-clause-fits : goal.put_row-requires-clause-fits
put_row-requires-clause-fits c =
    let fits = row_fits c.args.spot c.args.rel c.args.catalogue.now.databases c.args.shelf.now c.loop-row.row-index c.row-item.result c.key.result.now c.cells.result.now c.in_ok-record.record c.loop-row.catalogue
    c.loop-row-test.true c.row-item.is c.key.ensures c.cells.ensures c.in_ok-record.ensures c.loop-row.invariant c.requires.takes in
    fits.fits.0

pub put_row-requires-clause-room : goal.put_row-requires-clause-room
put_row-requires-clause-room c =
    let fits = row_fits c.args.spot c.args.rel c.args.catalogue.now.databases c.args.shelf.now c.loop-row.row-index c.row-item.result c.key.result.now c.cells.result.now c.in_ok-record.record c.loop-row.catalogue
    c.loop-row-test.true c.row-item.is c.key.ensures c.cells.ensures c.in_ok-record.ensures c.loop-row.invariant c.requires.takes in
    let room = fits.room in
    omega (arith, room)

pub loop-row-preserved : goal.loop-row-preserved
loop-row-preserved c =
    row_put c.args.spot c.args.rel c.args.catalogue.now.databases c.args.shelf.now c.loop-row.row-index c.row-item.result c.key.result.now c.cells.result.now c.in_ok-record.record c.loop-row.catalogue _
    c.loop-row-test.true c.row-item.is c.key.ensures c.cells.ensures c.in_ok-record.ensures c.loop-row.invariant c.in_ok-put_row.ensures.ok
