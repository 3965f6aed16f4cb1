use Rattle.std.proofs.Common.{◌≡◌, ◌∙◌, ap, map, refl, Bor}
use Rattle.std.specs.Prelude.{remove}
use Rattle.std.specs.List.{position}
use Rattle.std.proofs.lemmas.List.{get_or_read}
use Rattle.ss_text.specs.Texts.{Row, text_eq}
use Rattle.schema_model.specs.Catalogue.{DatabaseValue}
use Rattle.schema_model.proofs.ChangeLemmas.{position_there}
use Rattle.schema_model.proofs.Asks.{drop_has}
use Rattle.schema_model.specs.States.{plain_relation, plain_databases}
use Rattle.schema_model.proofs.ReadyLemmas.{not_missed, within_seen, relation_not_missed, name_stands, attribute_dropped, mapped_rows}
use Rattle.schema_model.specs.declared.edit.RelationEdit.TheVariants.{Sheet}
use Rattle.schema_model.proofs.sheets.drop_attribute_ready.Goals as goal

pub unreachable-requires : goal.unreachable-requires
unreachable-requires c =
    let has = drop_has (plain_databases c.args.databases.now.items) c.args.db.now c.args.rel.now c.args.name.now c.requires.accepted in
    not_missed (λ (d : DatabaseValue). text_eq c.args.db.now d.name) (plain_databases c.args.databases.now.items) has.at.d has.at.database c.in_default.ensures.there

pub unreachable-requires-in_default-place_of : goal.unreachable-requires-in_default-place_of
unreachable-requires-in_default-place_of c =
    let has = drop_has (plain_databases c.args.databases.now.items) c.args.db.now c.args.rel.now c.args.name.now c.requires.accepted in
    let ds = c.args.databases.now.items in
    let is = get_or_read ds c.in-Ok.db c.index-database.result.now (within_seen ds c.in-Ok.db c.in-Ok.ensures.found.within) c.index-database.ensures c.index-database.result.now in
    relation_not_missed ds c.args.db.now c.args.rel.now c.in-Ok.db 0 c.index-database.result.now c.index-database.result.now c.requires.sound c.in-Ok.ensures.found is has.at.d has.at.r has.at.database has.at.relation c.in_default-place_of.ensures.there

pub unreachable-requires-in_default-position_of : goal.unreachable-requires-in_default-position_of
unreachable-requires-in_default-position_of c =
    let ds = c.args.databases.now.items in
    let is = get_or_read ds c.in-Ok.db c.index-database.result.now (within_seen ds c.in-Ok.db c.in-Ok.ensures.found.within) c.index-database.ensures c.index-database.result.now in
    let has = drop_has (plain_databases c.args.databases.now.items) c.args.db.now c.args.rel.now c.args.name.now c.requires.accepted in
    let r = c.relation_at-relation.result.now in
    let any = name_stands ds c.args.db.now c.args.rel.now c.in-Ok.db c.in-Ok-place_of.rel c.index-database.result.now c.index-database.result.now c.requires.sound c.in-Ok.ensures.found is c.args.name.now has.at.d has.at.r r has.at.database has.at.relation c.in-Ok-place_of.ensures.found c.relation_at-relation.ensures has.there in
    cc (c.in_default-position_of.ensures ∙ ap (position (text_eq c.args.name.now)) (c.cells.ensures ∙ c.attributes.ensures.attributes), position_there (text_eq c.args.name.now) r.attributes any)

pub returns : goal.returns
returns c =
    let ds = c.args.databases.now.items in
    let is = get_or_read ds c.in-Ok.db c.index-database.result.now (within_seen ds c.in-Ok.db c.in-Ok.ensures.found.within) c.index-database.ensures c.index-database.result.now in
    let has = drop_has (plain_databases c.args.databases.now.items) c.args.db.now c.args.rel.now c.args.name.now c.requires.accepted in
    let r = c.relation_at-relation.result.now in
    let any = name_stands ds c.args.db.now c.args.rel.now c.in-Ok.db c.in-Ok-place_of.rel c.index-database.result.now c.index-database.result.now c.requires.sound c.in-Ok.ensures.found is c.args.name.now has.at.d has.at.r r has.at.database has.at.relation c.in-Ok-place_of.ensures.found c.relation_at-relation.ensures has.there in
    let first = c.in-Some.ensures ∙ ap (position (text_eq c.args.name.now)) (c.cells.ensures ∙ c.attributes.ensures.attributes) in
    let attributes : c.in_ok-attributes.attributes ≡ remove r.attributes c.in-Some.place = c.in_ok-attributes.ensures ∙ ap (λ (names : Row). remove names c.in-Some.place) (c.cells-2.ensures ∙ c.attributes-2.ensures.attributes) in
    let rows : c.in_ok-rows.rows.items ≡ map (λ (row : Row). remove row c.in-Some.place) (plain_relation r).rows = c.in_ok-rows.ensures ∙ ap (map (λ (row : Bor Row). remove row.now c.in-Some.place)) c.deref.ensures.value ∙ mapped_rows (λ (row : Row). remove row c.in-Some.place) c.in_ok-kept.kept.items (plain_relation r).rows c.in_ok-kept.ensures in
    attribute_dropped ds c.args.db.now c.args.rel.now c.in-Ok.db c.in-Ok-place_of.rel c.index-database.result.now c.index-database.result.now c.requires.sound c.in-Ok.ensures.found is _ c.args.name.now c.in-Some.place r
    (Sheet c.in_ok-attributes.attributes c.in_ok-rows.rows) c.in-Ok-place_of.ensures.found c.relation_at-relation.ensures any first (rw (attributes, rows) refl) (tt, tt)
