use Rattle.std.proofs.Common.{◌∙◌, ap}
use Rattle.schema_model.specs.States.{settled}
use Rattle.view_stack.proofs.PutLemmas.{none_put, shelf_fits, shelf_put}
use Rattle.view_stack.proofs.database.put_shelves.Goals as goal

pub loop-shelf-init : goal.loop-shelf-init
loop-shelf-init c = c.requires.settled ∙ ap settled (none_put c.args.spot c.args.rel c.args.catalogue.now.databases)

pub put_shelf-requires-clause-takes : goal.put_shelf-requires-clause-takes
put_shelf-requires-clause-takes c =
    shelf_fits c.args.spot c.args.rel c.args.catalogue.now.databases c.args.shelves.now c.loop-shelf.shelf-index c.shelf-item.result c.rows.result.now c.loop-shelf.catalogue
    c.loop-shelf-test.true c.shelf-item.is c.rows.ensures c.loop-shelf.invariant c.requires.takes

pub loop-shelf-preserved : goal.loop-shelf-preserved
loop-shelf-preserved c =
    shelf_put c.args.spot c.args.rel c.args.catalogue.now.databases c.args.shelves.now c.loop-shelf.shelf-index c.shelf-item.result c.rows.result.now c.loop-shelf.catalogue _
    c.loop-shelf-test.true c.shelf-item.is c.rows.ensures c.loop-shelf.invariant c.in_ok-put_shelf.ensures
