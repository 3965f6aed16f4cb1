use Rattle.std.proofs.Common.{◌≡◌}
use Rattle.schema_model.specs.States.{settled}
use Rattle.std.specs.Vec.Iter.{into_iter_items}
use Rattle.outside.specs.Reading.{OnlyRead}
use Rattle.csv_catalog.specs.Reading.{WhereTold}
use Rattle.csv_catalog.proofs.LoadLemmas.{IsLoading, MayGrow}
use Rattle.csv_catalog.proofs.loading.load.Given as goal

abbrev pub invariant-loop-db : goal.invariant-loop-db
invariant-loop-db g l = record {
  told : WhereTold (g.F.Folders.state l.fn.store) (λ t. IsLoading t (into_iter_items l.db-iterator) l.catalogue.databases);
  settled : l.catalogue ≡ settled l.catalogue.databases;
  grows : MayGrow (into_iter_items l.db-iterator) l.catalogue.databases;
  store : OnlyRead (g.F.Folders.state l.fn.store) (g.F.Folders.state l.store);
}
