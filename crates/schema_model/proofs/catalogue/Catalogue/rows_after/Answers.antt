use Rattle.std.proofs.Common.{arith}
use Rattle.schema_model.proofs.CountAfter.{row_within, relation_within, dropped_within}
use Rattle.schema_model.proofs.catalogue.Catalogue.rows_after.Goals as goal

pub overflow_sub-result : goal.overflow_sub-result
overflow_sub-result c =
    let rows = c.row_count-in-Delete.ensures in
    let within = row_within c.args.self.now.databases rows.sound _ _ _ (rw c.in-Delete.is at c.requires) in
    omega (arith, within, rows.count)

pub overflow_sub-result-in-DropRelation : goal.overflow_sub-result-in-DropRelation
overflow_sub-result-in-DropRelation c =
    let rows = c.row_count-in-DropRelation.ensures in
    let within = relation_within c.args.self.now.databases rows.sound _ _ (rw c.in-DropRelation.is at c.requires) in
    omega (arith, within, rows.count, c.rows_of_relation.ensures)

pub overflow_sub-result-in-DropDatabase : goal.overflow_sub-result-in-DropDatabase
overflow_sub-result-in-DropDatabase c =
    let rows = c.row_count-in-DropDatabase.ensures in
    let within = dropped_within c.args.self.now.databases rows.sound _ (rw c.in-DropDatabase.is at c.requires) in
    omega (arith, within, rows.count, c.rows_of_database.ensures)
