use Rattle.std.proofs.Common.{◌≡◌, Some, sym, arith}
use Rattle.schema_model.specs.Catalogue.{database_of}
use Rattle.schema_model.specs.States.{plain_database}
use Rattle.schema_model.proofs.CountAfter.{database_within}
use Rattle.schema_model.proofs.catalogue.Catalogue.rows_of_database.Goals as goal

pub row_count-requires : goal.row_count-requires
row_count-requires c =
    let there : database_of c.args.self.now.databases c.args.db.now ≡ Some (plain_database c.in-Some.database.now) = sym c.in-Some.ensures in
    let within = database_within c.args.self.now.databases c.requires c.args.db.now (plain_database c.in-Some.database.now) there in
    omega (arith, within, c.requires.rows)
