use Rattle.schema_model.specs.States.{plain_relation}
use Rattle.schema_model.proofs.Asks.{rename_relation_has}
use Rattle.schema_delta.proofs.Asked.{there}
use Rattle.schema_delta.proofs.FlatLaw.{renamed_law}
use Rattle.schema_delta.proofs.databases.relation_renamed.Goals as goal

pub relation_of-relation-requires : goal.relation_of-relation-requires
relation_of-relation-requires c = there c.args.catalogue.now.databases c.args.db.now c.args.rel.now (rename_relation_has c.args.catalogue.now.databases c.args.db.now c.args.rel.now c.args.to.now c.requires).at

pub returns : goal.returns
returns c =
    let r = plain_relation c.relation_of-relation.result.now in
    let has = rename_relation_has c.args.catalogue.now.databases c.args.db.now c.args.rel.now c.args.to.now c.requires in
    rw (c.in_ok-delta.ensures, c.in_ok-gone.ensures, c.in_ok-come.ensures, c.name.ensures)
    (renamed_law c.args.spec.now c.args.catalogue.now.databases c.relation_of-relation.ensures.sound c.args.db.now c.args.rel.now c.args.to.now r has.at.d has.at.database c.relation_of-relation.ensures.found has.free)
