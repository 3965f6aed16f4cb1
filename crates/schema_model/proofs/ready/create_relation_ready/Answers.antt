use Rattle.std.proofs.Common.{◌∙◌, [], ap, sym, subst}
use Rattle.ss_text.specs.Texts.{Text, Row, text_eq}
use Rattle.schema_model.specs.Catalogue.{DatabaseValue, relation_value}
use Rattle.schema_model.specs.Sound.{IsHeader}
use Rattle.schema_model.proofs.Asks.{create_has}
use Rattle.schema_model.specs.States.{plain_databases}
use Rattle.schema_model.proofs.ReadyLemmas.{not_missed, relation_not_found, still_all, relation_created, header_of}
use Rattle.schema_model.proofs.ready.create_relation_ready.Goals as goal

pub unreachable-requires : goal.unreachable-requires
unreachable-requires c =
    let has = create_has (plain_databases c.args.databases.now.items) c.args.db.now c.args.rel.now c.args.attributes.now c.requires.accepted in
    not_missed (λ (d : DatabaseValue). text_eq c.args.db.now d.name) (plain_databases c.args.databases.now.items) has.d has.database c.in_default.ensures.there

pub unreachable-requires-in_default-place_of : goal.unreachable-requires-in_default-place_of
unreachable-requires-in_default-place_of c =
    let has = create_has (plain_databases c.args.databases.now.items) c.args.db.now c.args.rel.now c.args.attributes.now c.requires.accepted in
    relation_not_found c.args.databases.now.items c.args.db.now c.args.rel.now c.in-Ok.db 0 c.index_mut-database.result.now c.index_mut-database.result.now c.requires.sound c.in-Ok.ensures.found c.index_mut-database.ensures.value
    has.d has.database has.free c.in_default-place_of.ensures.there

pub new-requires : goal.new-requires
new-requires c =
    let has = create_has (plain_databases c.args.databases.now.items) c.args.db.now c.args.rel.now c.args.attributes.now c.requires.accepted in
    subst IsHeader (sym c.in_ok-attributes.ensures) (header_of c.args.attributes.now c.requires.well_formed has.few has.once)

pub returns-in_err-reserve-clause-same : goal.returns-in_err-reserve-clause-same
returns-in_err-reserve-clause-same c =
    still_all c.args.databases.now.items c.args.db.now c.args.rel.now c.in-Ok.db 0 c.index_mut-database.result.now c.reserve.new.self c.requires.sound c.in-Ok.ensures.found c.index_mut-database.ensures.value c.reserve.ensures.value

pub returns-clause-same : goal.returns-clause-same
returns-clause-same c =
    still_all c.args.databases.now.items c.args.db.now c.args.rel.now c.in-Ok.db 0 c.index_mut-database.result.now c.reserve.new.self c.requires.sound c.in-Ok.ensures.found c.index_mut-database.ensures.value c.reserve.ensures.value

pub returns-clause-makes : goal.returns-clause-makes
returns-clause-makes c =
    let is = c.in_ok-relation.ensures ∙ ap (λ (name : Text). relation_value name c.in_ok-attributes.attributes []) c.in_ok-name.ensures ∙ ap (λ (names : Row). relation_value c.args.rel.now names []) c.in_ok-attributes.ensures in
    relation_created c.args.databases.now.items c.args.db.now c.args.rel.now c.in-Ok.db c.in-Err.place c.index_mut-database.result.now c.reserve.new.self c.requires.sound c.in-Ok.ensures.found c.index_mut-database.ensures.value
    _ c.args.attributes.now c.in_ok-relation.relation c.reserve.ensures.value c.in_ok-reserve.ensures.ok c.in-Err.ensures.absent is
