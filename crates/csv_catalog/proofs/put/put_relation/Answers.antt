use Rattle.schema_model.proofs.Seen.{settled_if}
use Rattle.csv_catalog.proofs.PutLemmas.{takes_rows, rows_then, counted_relations, settled_as}
use Rattle.csv_catalog.proofs.put.put_relation.Goals as goal

pub put_rows-requires-clause-takes : goal.put_rows-requires-clause-takes
put_rows-requires-clause-takes c =
    let old = c.args.catalogue.now.databases in
    let db = c.args.db in
    let rel = counted_relations c.databases.result.now old db c.index-databases-db.result _ c.databases.ensures.databases c.requires.there c.index-databases-db.is c.relations-rel.ensures.relations in
    let parts = c.into_parts-label.ensures in
    rw (c.in_ok-put_relation.ensures.ok, parts.label, parts.attributes, parts.rows) (takes_rows old db c.args.relation _ rel parts.sound c.requires)

pub put_rows-requires-clause-settled : goal.put_rows-requires-clause-settled
put_rows-requires-clause-settled c = settled_as _ _ c.in_ok-put_relation.ensures.ok

pub returns : goal.returns
returns c =
    let old = c.args.catalogue.now.databases in
    let db = c.args.db in
    let rel = counted_relations c.databases.result.now old db c.index-databases-db.result _ c.databases.ensures.databases c.requires.there c.index-databases-db.is c.relations-rel.ensures.relations in
    let parts = c.into_parts-label.ensures in
    settled_if _ _ _ _ (rows_then old db c.args.relation _ c.requires.there rel) (rw (c.in_ok-put_relation.ensures.ok, parts.label, parts.attributes, parts.rows) at c.put_rows.ensures)
