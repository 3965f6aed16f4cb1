use Rattle.schema_model.proofs.Seen.{settled_if}
use Rattle.csv_catalog.proofs.PutLemmas.{relations_then, counted_databases}
use Rattle.csv_catalog.proofs.put.put_database.Goals as goal

pub returns : goal.returns
returns c =
    let old = c.args.catalogue.now.databases in
    settled_if _ _ _ _ (relations_then old c.args.name c.args.relations.items) (rw (c.in_ok-put_database.ensures.ok, counted_databases c.databases-db.result.now old c.databases-db.ensures.databases) at c.put_relations.ensures)
