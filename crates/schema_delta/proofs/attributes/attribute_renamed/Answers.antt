use Rattle.schema_model.specs.Changes.{renamed_attribute}
use Rattle.schema_model.specs.States.{plain_relation}
use Rattle.schema_model.proofs.Asks.{rename_has}
use Rattle.schema_delta.proofs.Asked.{there, rename_fits}
use Rattle.schema_delta.proofs.FlatLaw.{changed_law}
use Rattle.schema_delta.proofs.attributes.attribute_renamed.Goals as goal

pub relation_of-relation-requires : goal.relation_of-relation-requires
relation_of-relation-requires g c = there c.args.catalogue.now.databases c.args.db.now c.args.rel.now (rename_has c.args.catalogue.now.databases c.args.db.now c.args.rel.now c.args.name.now c.args.to.now c.requires).at

pub part_change-requires-clause-fits : goal.part_change-requires-clause-fits
part_change-requires-clause-fits g c =
    let r = plain_relation c.relation_of-relation.result.now in
    rw (c.place_of-place.ensures, c.attributes.ensures.attributes, c.in_ok-to.ensures) (rename_fits c.args.catalogue.now.databases c.args.db.now c.args.rel.now r c.relation_of-relation.ensures.found c.args.name.now c.args.to.now c.requires)

pub returns-clause-moved : goal.returns-clause-moved
returns-clause-moved g c =
    let r = plain_relation c.relation_of-relation.result.now in
    let moved = rw (c.place_of-place.ensures, c.attributes.ensures.attributes, c.in_ok-to.ensures) at c.in_ok-delta.ensures.moved in
    changed_law c.args.spec.now c.args.catalogue.now.databases c.relation_of-relation.ensures.sound c.args.db.now c.args.rel.now r (renamed_attribute c.args.name.now c.args.to.now) c.in_ok-delta.delta c.relation_of-relation.ensures.found moved
