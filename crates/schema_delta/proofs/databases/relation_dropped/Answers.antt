use Rattle.schema_model.specs.States.{plain_relation}
use Rattle.schema_model.proofs.Asks.{drop_relation_has}
use Rattle.schema_delta.proofs.Asked.{there}
use Rattle.schema_delta.proofs.FlatLaw.{dropped_law}
use Rattle.schema_delta.proofs.databases.relation_dropped.Goals as goal

pub relation_of-relation-requires : goal.relation_of-relation-requires
relation_of-relation-requires c = there c.args.catalogue.now.databases c.args.db.now c.args.rel.now (drop_relation_has c.args.catalogue.now.databases c.args.db.now c.args.rel.now c.requires)

pub returns : goal.returns
returns c =
    let r = plain_relation c.relation_of-relation.result.now in
    rw (c.in_ok-delta.ensures, c.in_ok-gone.ensures, c.name.ensures)
    (dropped_law c.args.spec.now c.args.catalogue.now.databases c.relation_of-relation.ensures.sound c.args.db.now c.args.rel.now r c.relation_of-relation.ensures.found)
