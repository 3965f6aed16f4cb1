use Rattle.std.proofs.Common.{◌≡◌, ◌∙◌, sym, ap, subst, map}
use Rattle.schema_model.specs.Catalogue.{CatalogueValue}
use Rattle.schema_model.specs.Changes.{after}
use Rattle.schema_model.specs.Sound.{IsSound, IsCounted}
use Rattle.schema_model.specs.States.{settled, plain_database, plain_databases}
use Rattle.schema_model.proofs.Seen.{inserted_seen, removed_seen}
use Rattle.schema_model.proofs.EditLemmas.{database_sound, database_set, database_renamed}
use Rattle.schema_model.proofs.catalogue.Catalogue.commit.Goals as goal

pub make-requires-clause-sound : goal.make-requires-clause-sound
make-requires-clause-sound c =
    let held = rw (← c.in-Some.ensures.value, c.in-At.is) at c.self.invariant.1 in
    database_sound c.self.inside.databases.items c.in-At.db c.index_mut-database.result.now held.makes.fits.0 c.index_mut-database.ensures.value c.in-At.edit (subst IsSound (sym held.makes.makes) held.counted.sound).databases

pub invariant_of-self : goal.invariant_of-self
invariant_of-self c =
    let held = rw (← c.in-Some.ensures.value, c.in-At.is) at c.self.invariant.1 in
    let is = database_set c.self.inside.databases.items c.in-At.db c.index_mut-database.result.now held.makes.fits.0 c.index_mut-database.ensures.value c.in-At.edit c.make.new.self c.make.ensures in
    (subst (λ (ds : CatalogueValue). IsCounted ds c.in-Some.waiting.rows) (sym (is ∙ held.makes.makes)) held.counted, rw c.take.ensures.after tt, tt)

pub returns-in-At : goal.returns-in-At
returns-in-At c =
    let held = rw (← c.in-Some.ensures.value, c.in-At.is) at c.self.invariant.1 in
    let is = database_set c.self.inside.databases.items c.in-At.db c.index_mut-database.result.now held.makes.fits.0 c.index_mut-database.ensures.value c.in-At.edit c.make.new.self c.make.ensures in
    let asked = rw (← c.self.view_is, ← c.in-Some.ensures.value) at c.requires in
    let same : c.in-Some.waiting.of.value ≡ c.args.ready = cc in
    rw (← c.self.view_is, c.take.ensures.after) (ap settled (is ∙ held.makes.makes ∙ ap (after (plain_databases c.self.inside.databases.items)) same))

pub invariant_of-self-in-Put : goal.invariant_of-self-in-Put
invariant_of-self-in-Put c =
    let held = rw (← c.in-Some.ensures.value, c.in-Put.is) at c.self.invariant.1 in
    let is = ap (map plain_database) c.in-Ok.ensures.items ∙ inserted_seen plain_database c.self.inside.databases.items c.in-Put.place c.in-Put.database in
    (subst (λ (ds : CatalogueValue). IsCounted ds c.in-Some.waiting.rows) (sym (is ∙ held.makes.makes)) held.counted, rw c.take.ensures.after tt, tt)

pub returns-in-Put : goal.returns-in-Put
returns-in-Put c =
    let held = rw (← c.in-Some.ensures.value, c.in-Put.is) at c.self.invariant.1 in
    let is = ap (map plain_database) c.in-Ok.ensures.items ∙ inserted_seen plain_database c.self.inside.databases.items c.in-Put.place c.in-Put.database in
    let asked = rw (← c.self.view_is, ← c.in-Some.ensures.value) at c.requires in
    let same : c.in-Some.waiting.of.value ≡ c.args.ready = cc in
    rw (← c.self.view_is, c.take.ensures.after) (ap settled (is ∙ held.makes.makes ∙ ap (after (plain_databases c.self.inside.databases.items)) same))

pub invariant_of-self-in-Out : goal.invariant_of-self-in-Out
invariant_of-self-in-Out c =
    let held = rw (← c.in-Some.ensures.value, c.in-Out.is) at c.self.invariant.1 in
    let is = ap (map plain_database) c.remove.ensures.items ∙ removed_seen plain_database c.self.inside.databases.items c.in-Out.place in
    (subst (λ (ds : CatalogueValue). IsCounted ds c.in-Some.waiting.rows) (sym (is ∙ held.makes.makes)) held.counted, rw c.take.ensures.after tt, tt)

pub returns-in-Out : goal.returns-in-Out
returns-in-Out c =
    let held = rw (← c.in-Some.ensures.value, c.in-Out.is) at c.self.invariant.1 in
    let is = ap (map plain_database) c.remove.ensures.items ∙ removed_seen plain_database c.self.inside.databases.items c.in-Out.place in
    let asked = rw (← c.self.view_is, ← c.in-Some.ensures.value) at c.requires in
    let same : c.in-Some.waiting.of.value ≡ c.args.ready = cc in
    rw (← c.self.view_is, c.take.ensures.after) (ap settled (is ∙ held.makes.makes ∙ ap (after (plain_databases c.self.inside.databases.items)) same))

pub invariant_of-self-in-Ok-insert : goal.invariant_of-self-in-Ok-insert
invariant_of-self-in-Ok-insert c =
    let held = rw (← c.in-Some.ensures.value, c.in-Rename.is) at c.self.invariant.1 in
    let items = rw c.remove-database.ensures.items at c.in-Ok-insert.ensures.items in
    let is = ap (map plain_database) items ∙ database_renamed c.self.inside.databases.items c.in-Rename.place c.remove-database.result held.makes.fits.0 c.remove-database.ensures.value c.in-Rename.to c.in-Rename.name c.rename.new.self c.rename.ensures in
    (subst (λ (ds : CatalogueValue). IsCounted ds c.in-Some.waiting.rows) (sym (is ∙ held.makes.makes)) held.counted, rw c.take.ensures.after tt, tt)

pub returns : goal.returns
returns c =
    let held = rw (← c.in-Some.ensures.value, c.in-Rename.is) at c.self.invariant.1 in
    let items = rw c.remove-database.ensures.items at c.in-Ok-insert.ensures.items in
    let is = ap (map plain_database) items ∙ database_renamed c.self.inside.databases.items c.in-Rename.place c.remove-database.result held.makes.fits.0 c.remove-database.ensures.value c.in-Rename.to c.in-Rename.name c.rename.new.self c.rename.ensures in
    let asked = rw (← c.self.view_is, ← c.in-Some.ensures.value) at c.requires in
    let same : c.in-Some.waiting.of.value ≡ c.args.ready = cc in
    rw (← c.self.view_is, c.take.ensures.after) (ap settled (is ∙ held.makes.makes ∙ ap (after (plain_databases c.self.inside.databases.items)) same))
