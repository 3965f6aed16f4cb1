use Rattle.schema_model.proofs.Asks.{create_has}
use Rattle.schema_delta.proofs.FlatLaw.{created_law}
use Rattle.schema_delta.proofs.databases.relation_created.Goals as goal

pub returns : goal.returns
returns c =
    let has = create_has c.args.catalogue.now.databases c.args.db.now c.args.rel.now c.args.attributes.now c.requires in
    rw (c.in_ok-delta.ensures, c.in_ok-come.ensures)
    (created_law c.args.spec.now c.args.catalogue.now.databases c.databases-sound.ensures.sound c.args.db.now c.args.rel.now c.args.attributes.now has.d has.database has.free)
