use Rattle.schema_model.specs.States.{plain_database}
use Rattle.schema_model.proofs.Asks.{rename_database_has}
use Rattle.schema_delta.proofs.FlatLaw.{database_renamed_law}
use Rattle.schema_delta.proofs.databases.database_renamed.Goals as goal

pub database_of-database-requires : goal.database_of-database-requires
database_of-database-requires c =
    let has = rename_database_has c.args.catalogue.now.databases c.args.db.now c.args.to.now c.requires in
    (has.d, has.database)

pub returns : goal.returns
returns c =
    let d = plain_database c.database_of-database.result.now in
    let has = rename_database_has c.args.catalogue.now.databases c.args.db.now c.args.to.now c.requires in
    rw (c.in_ok-delta.ensures, c.in_ok-gone.ensures, c.in_ok-come.ensures, c.name.ensures)
    (database_renamed_law c.args.spec.now c.args.catalogue.now.databases c.database_of-database.ensures.sound c.args.db.now c.args.to.now d c.database_of-database.ensures.found has.free)
