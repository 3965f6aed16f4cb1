use Rattle.std.proofs.lemmas.List.{get_or_read}
use Rattle.ss_text.specs.Texts.{text_eq}
use Rattle.schema_model.specs.Catalogue.{DatabaseValue}
use Rattle.schema_model.proofs.Asks.{drop_relation_has}
use Rattle.schema_model.specs.States.{plain_databases}
use Rattle.schema_model.proofs.ReadyLemmas.{not_missed, within_seen, relation_not_missed, relation_dropped}
use Rattle.schema_model.proofs.ready.drop_relation_ready.Goals as goal

pub unreachable-requires : goal.unreachable-requires
unreachable-requires c =
    let has = drop_relation_has (plain_databases c.args.databases.now.items) c.args.db.now c.args.rel.now c.requires.accepted in
    not_missed (λ (d : DatabaseValue). text_eq c.args.db.now d.name) (plain_databases c.args.databases.now.items) has.d has.database c.in_default.ensures.there

pub unreachable-requires-in_default-place_of : goal.unreachable-requires-in_default-place_of
unreachable-requires-in_default-place_of c =
    let has = drop_relation_has (plain_databases c.args.databases.now.items) c.args.db.now c.args.rel.now c.requires.accepted in
    let ds = c.args.databases.now.items in
    let is = get_or_read ds c.in-Ok.db c.index.result.now (within_seen ds c.in-Ok.db c.in-Ok.ensures.found.within) c.index.ensures c.index.result.now in
    relation_not_missed ds c.args.db.now c.args.rel.now c.in-Ok.db 0 c.index.result.now c.index.result.now c.requires.sound c.in-Ok.ensures.found is has.d has.r has.database has.relation c.in_default-place_of.ensures.there

pub returns : goal.returns
returns c =
    let ds = c.args.databases.now.items in
    let is = get_or_read ds c.in-Ok.db c.index.result.now (within_seen ds c.in-Ok.db c.in-Ok.ensures.found.within) c.index.ensures c.index.result.now in
    relation_dropped ds c.args.db.now c.args.rel.now c.in-Ok.db c.in-Ok-place_of.rel c.index.result.now c.index.result.now c.requires.sound c.in-Ok.ensures.found is _ c.in-Ok-place_of.ensures.found
