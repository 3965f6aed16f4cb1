use Rattle.std.proofs.lemmas.List.{get_or_read}
use Rattle.ss_text.specs.Texts.{text_eq}
use Rattle.schema_model.specs.Catalogue.{DatabaseValue}
use Rattle.schema_model.proofs.Asks.{rename_relation_has}
use Rattle.schema_model.specs.States.{plain_databases}
use Rattle.schema_model.proofs.ReadyLemmas.{not_missed, within_seen, relation_not_missed, relation_not_found}
use Rattle.schema_model.proofs.Others.{relation_moved}
use Rattle.schema_model.proofs.ready.rename_relation_ready.Goals as goal

pub unreachable-requires : goal.unreachable-requires
unreachable-requires c =
    let has = rename_relation_has (plain_databases c.args.databases.now.items) c.args.db.now c.args.rel.now c.args.to.now c.requires.accepted in
    not_missed (λ (d : DatabaseValue). text_eq c.args.db.now d.name) (plain_databases c.args.databases.now.items) has.at.d has.at.database c.in_default.ensures.there

pub unreachable-requires-in_default-place_of : goal.unreachable-requires-in_default-place_of
unreachable-requires-in_default-place_of c =
    let has = rename_relation_has (plain_databases c.args.databases.now.items) c.args.db.now c.args.rel.now c.args.to.now c.requires.accepted in
    let ds = c.args.databases.now.items in
    let is = get_or_read ds c.in-Ok.db c.index-database.result.now (within_seen ds c.in-Ok.db c.in-Ok.ensures.found.within) c.index-database.ensures c.index-database.result.now in
    relation_not_missed ds c.args.db.now c.args.rel.now c.in-Ok.db 0 c.index-database.result.now c.index-database.result.now c.requires.sound c.in-Ok.ensures.found is has.at.d has.at.r has.at.database has.at.relation c.in_default-place_of.ensures.there

pub unreachable-requires-in_default-place_of-2 : goal.unreachable-requires-in_default-place_of-2
unreachable-requires-in_default-place_of-2 c =
    let has = rename_relation_has (plain_databases c.args.databases.now.items) c.args.db.now c.args.rel.now c.args.to.now c.requires.accepted in
    let ds = c.args.databases.now.items in
    let is = get_or_read ds c.in-Ok.db c.index-database.result.now (within_seen ds c.in-Ok.db c.in-Ok.ensures.found.within) c.index-database.ensures c.index-database.result.now in
    relation_not_found ds c.args.db.now c.args.to.now c.in-Ok.db 0 c.index-database.result.now c.index-database.result.now c.requires.sound c.in-Ok.ensures.found is has.at.d has.at.database has.free c.in_default-place_of-2.ensures.there

pub returns : goal.returns
returns c =
    let ds = c.args.databases.now.items in
    let is = get_or_read ds c.in-Ok.db c.index-database.result.now (within_seen ds c.in-Ok.db c.in-Ok.ensures.found.within) c.index-database.ensures c.index-database.result.now in
    relation_moved ds _ c.args.db.now c.args.rel.now c.args.to.now c.in_ok-name.name c.in-Ok.db c.in-Ok-place_of.place c.in-Err.gap c.among_others-to.result c.index-database.result.now c.requires.sound c.in-Ok.ensures.found is
    c.in-Ok-place_of.ensures.found c.in-Err.ensures.absent c.among_others-to.ensures c.in_ok-name.ensures
