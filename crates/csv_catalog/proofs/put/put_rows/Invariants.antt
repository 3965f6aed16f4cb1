use Rattle.std.proofs.Common.{◌≡◌}
use Rattle.std.specs.Vec.Iter.{into_iter_items}
use Rattle.ss_text.specs.Places.{at_place}
use Rattle.schema_model.specs.Catalogue.{with_relation_at, with_rows}
use Rattle.schema_model.specs.States.{settled}
use Rattle.csv_catalog.specs.Put.{CanTakeRows}
use Rattle.csv_catalog.proofs.put.put_rows.Given as goal

abbrev pub invariant-loop-row : goal.invariant-loop-row
invariant-loop-row l = record {
  same : at_place l.db (with_relation_at l.rel (with_rows (into_iter_items l.row-iterator))) l.catalogue.databases ≡ at_place l.db (with_relation_at l.rel (with_rows l.fn.rows.items)) l.fn.catalogue.databases;
  settled : l.catalogue ≡ settled l.catalogue.databases;
  can : CanTakeRows l.catalogue.databases l.db l.rel (into_iter_items l.row-iterator);
}
