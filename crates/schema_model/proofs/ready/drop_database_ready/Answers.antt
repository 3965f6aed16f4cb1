use Rattle.ss_text.specs.Texts.{text_eq}
use Rattle.schema_model.specs.Catalogue.{DatabaseValue}
use Rattle.schema_model.proofs.Asks.{drop_database_has}
use Rattle.schema_model.specs.States.{plain_databases}
use Rattle.schema_model.proofs.ReadyLemmas.{not_missed, dropped}
use Rattle.schema_model.proofs.ready.drop_database_ready.Goals as goal

pub unreachable-requires : goal.unreachable-requires
unreachable-requires c =
    let has = drop_database_has (plain_databases c.args.databases.now.items) c.args.db.now c.requires.accepted in
    not_missed (λ (d : DatabaseValue). text_eq c.args.db.now d.name) (plain_databases c.args.databases.now.items) has.0 has.1 c.in_default.ensures.there

pub returns : goal.returns
returns c = dropped c.args.databases.now.items _ c.args.db.now c.in-Ok.place c.requires.sound c.in-Ok.ensures.found
