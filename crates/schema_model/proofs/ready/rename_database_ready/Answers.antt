use Rattle.ss_text.specs.Texts.{text_eq}
use Rattle.schema_model.specs.Catalogue.{DatabaseValue}
use Rattle.schema_model.proofs.Asks.{rename_database_has}
use Rattle.schema_model.specs.States.{plain_databases}
use Rattle.schema_model.proofs.ReadyLemmas.{not_missed, not_found}
use Rattle.schema_model.proofs.Others.{database_moved}
use Rattle.schema_model.proofs.ready.rename_database_ready.Goals as goal

pub unreachable-requires : goal.unreachable-requires
unreachable-requires c =
    let has = rename_database_has (plain_databases c.args.databases.now.items) c.args.db.now c.args.to.now c.requires.accepted in
    not_missed (λ (d : DatabaseValue). text_eq c.args.db.now d.name) (plain_databases c.args.databases.now.items) has.d has.database c.in_default.ensures.there

pub unreachable-requires-in_default-place_of : goal.unreachable-requires-in_default-place_of
unreachable-requires-in_default-place_of c =
    let has = rename_database_has (plain_databases c.args.databases.now.items) c.args.db.now c.args.to.now c.requires.accepted in
    not_found (λ (d : DatabaseValue). text_eq c.args.to.now d.name) (plain_databases c.args.databases.now.items) has.free c.in_default-place_of.ensures.there

pub returns : goal.returns
returns c =
    database_moved c.args.databases.now.items _ c.args.db.now c.args.to.now c.in_ok-name.name c.in-Ok.place c.in-Err.gap c.among_others-to.result c.requires.sound c.in-Ok.ensures.found c.in-Err.ensures.absent c.among_others-to.ensures c.in_ok-name.ensures
