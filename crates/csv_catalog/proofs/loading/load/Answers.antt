use Rattle.std.proofs.Common.{◌≡◌, ◌<◌, ◌≤◌, ◌∙◌, [], length, arith}
use Rattle.std.proofs.lemmas.Grind.{common_steps}
use Rattle.std.specs.Vec.Iter.{into_iter_items}
use Rattle.outside.proofs.ReadingLemmas.{only_read_then}
use Rattle.csv_catalog.proofs.LoadLemmas.{loading_more, loading_refused, loading_done, too_many, grows_names, grows_more}
use Rattle.schema_model.specs.Limits.{most_databases}
use Rattle.csv_catalog.proofs.loading.load.Goals as goal

pub returns-then-len-gt-MOST_DATABASES-clause-refused : goal.returns-then-len-gt-MOST_DATABASES-clause-refused
returns-then-len-gt-MOST_DATABASES-clause-refused g c =
    let few : most_databases < length c.in_ok-names.names.items = grind (arith, common_steps) in
    λ r t h. too_many t c.in_ok-names.names.items (c.in_ok-names.ensures.told t h) few

pub load_database-requires-clause-names : goal.load_database-requires-clause-names
load_database-requires-clause-names g c =
    grows_names c.in-Some.db (into_iter_items c.next.new.self) c.loop-db.catalogue.databases (rw c.in-Some.ensures.steps.0 at c.loop-db.invariant.grows)

pub loop-db-preserved : goal.loop-db-preserved
loop-db-preserved g c =
    let inv = rw c.in-Some.ensures.steps.0 at c.loop-db.invariant in
    let read = c.in-Ok.ensures in
    record {
      told = λ t h. loading_more t c.in-Some.db (into_iter_items c.next.new.self) c.loop-db.catalogue.databases c.load_database.new.catalogue.databases (inv.told t h) (read.sound t (inv.store.tree ∙ h)) (read.told t (inv.store.tree ∙ h));
      settled = read.settled;
      grows = grows_more c.in-Some.db (into_iter_items c.next.new.self) c.loop-db.catalogue.databases c.load_database.new.catalogue.databases inv.grows read.names read.few;
      store = only_read_then _ _ _ inv.store read.store;
    }

pub returns-in-Err-clause-refused : goal.returns-in-Err-clause-refused
returns-in-Err-clause-refused g c =
    let inv = rw c.in-Some.ensures.steps.0 at c.loop-db.invariant in
    let few : length c.in_ok-names.names.items ≤ most_databases = grind (arith, common_steps) in
    λ r t h. loading_refused t c.in_ok-names.names.items c.in-Some.db (into_iter_items c.next.new.self) c.loop-db.catalogue.databases _ (c.in_ok-names.ensures.told t h) few (inv.told t h) (c.in-Err.ensures.refused r t (inv.store.tree ∙ h))

pub returns-clause-loaded : goal.returns-clause-loaded
returns-clause-loaded g c =
    let left = into_iter_items c.loop-db.db-iterator in
    let none : left ≡ [] = grind (arith, common_steps) in
    let few : length c.in_ok-names.names.items ≤ most_databases = grind (arith, common_steps) in
    λ t h. loading_done t c.in_ok-names.names.items left c.loop-db.catalogue.databases (c.in_ok-names.ensures.told t h) few none (c.loop-db.invariant.told t h)
