use Rattle.std.proofs.Common.{◌≡◌}
use Rattle.std.specs.Vec.Iter.{into_iter_items}
use Rattle.ss_text.specs.Places.{at_place}
use Rattle.schema_model.specs.States.{settled}
use Rattle.csv_catalog.specs.Put.{with_relations, CanTakeRelations}
use Rattle.csv_catalog.proofs.put.put_relations.Given as goal

abbrev pub invariant-loop-relation : goal.invariant-loop-relation
invariant-loop-relation l = record {
  same : at_place l.db (with_relations (into_iter_items l.relation-iterator)) l.catalogue.databases ≡ at_place l.db (with_relations l.fn.relations.items) l.fn.catalogue.databases;
  settled : l.catalogue ≡ settled l.catalogue.databases;
  can : CanTakeRelations l.catalogue.databases l.db (into_iter_items l.relation-iterator);
}
