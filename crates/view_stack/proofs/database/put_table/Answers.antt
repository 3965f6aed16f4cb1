use Rattle.view_stack.proofs.SlotLemmas.{shelves_fit, table_put}
use Rattle.view_stack.proofs.database.put_table.Goals as goal

pub put_shelves-requires-clause-takes : goal.put_shelves-requires-clause-takes
put_shelves-requires-clause-takes c =
    shelves_fit c.args.catalogue.now.databases c.args.rel c.args.shape.now c.args.label.now c.args.table.now.table c.requires c.in_ok-copy.field-0 c.in_ok-header.header c.columns.result.now _ _
    c.in_ok-copy.ensures c.in_ok-header.ensures c.columns.ensures.columns c.shelves.ensures.rows c.in_ok-put_relation.ensures.ok

pub returns : goal.returns
returns c =
    table_put c.args.catalogue.now.databases c.args.rel c.args.shape.now c.args.label.now c.args.table.now.table c.requires c.in_ok-copy.field-0 c.in_ok-header.header c.columns.result.now _ _
    c.in_ok-copy.ensures c.in_ok-header.ensures c.columns.ensures.columns c.shelves.ensures.rows c.in_ok-put_relation.ensures.ok c.put_shelves.result _ c.put_shelves.ensures
