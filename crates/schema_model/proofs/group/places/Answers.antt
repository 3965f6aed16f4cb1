use Rattle.std.proofs.Common.{◌≡◌, ◌∙◌, [], None, sym, ap}
use Rattle.std.specs.Prelude.{option_and_then}
use Rattle.std.proofs.lemmas.List.{get_or_read}
use Rattle.ss_text.specs.Texts.{text_eq}
use Rattle.schema_model.specs.Catalogue.{RelationValue, DatabaseValue, database_value, database_at, relation_in}
use Rattle.schema_model.specs.States.{plain_database, plain_databases}
use Rattle.schema_model.proofs.Seen.{at_seen}
use Rattle.schema_model.proofs.ReadyLemmas.{within_seen}
use Rattle.schema_model.proofs.ChangeLemmas.{relation_missing}
use Rattle.schema_model.proofs.GroupLemmas.{none_any}
use Rattle.schema_model.proofs.group.places.Goals as goal

pub returns-in_default : goal.returns-in_default
returns-in_default c = ap (option_and_then (relation_in c.args.rel.now)) (none_any (λ (d : DatabaseValue). text_eq c.args.db.now d.name) (plain_databases c.args.databases.now.items) c.in_default.ensures.there)

pub returns-in-Err : goal.returns-in-Err
returns-in-Err c =
    let ds = c.args.databases.now.items in
    let there = within_seen ds c.in-Ok.db c.in-Ok.ensures.found.within in
    let read = get_or_read ds c.in-Ok.db c.index.result.now there c.index.ensures c.index.result.now in
    let is : database_at c.in-Ok.db (plain_databases ds) ≡ plain_database c.index.result.now = at_seen plain_database ds c.in-Ok.db c.index.result.now (database_value [] []) there ∙ sym (ap plain_database read) in
    let none : relation_in c.args.rel.now (plain_database c.index.result.now) ≡ None = none_any (λ (r : RelationValue). text_eq c.args.rel.now r.name) (plain_database c.index.result.now).relations c.in-Err.ensures.there in
    relation_missing (plain_databases ds) c.args.db.now c.args.rel.now c.in-Ok.db c.requires c.in-Ok.ensures.found (ap (relation_in c.args.rel.now) is ∙ none)
