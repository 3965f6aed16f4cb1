use Rattle.schema_model.proofs.Asks.{create_database_has}
use Rattle.schema_delta.proofs.FlatLaw.{database_created_law}
use Rattle.schema_delta.proofs.databases.database_created.Goals as goal

pub returns : goal.returns
returns c =
    rw (c.in_ok-delta.ensures, c.in_ok-come.ensures)
    (database_created_law c.args.spec.now c.args.catalogue.now.databases c.databases-sound.ensures.sound c.args.db.now (create_database_has c.args.catalogue.now.databases c.args.db.now c.requires).free)
