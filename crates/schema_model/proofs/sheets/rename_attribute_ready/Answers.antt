use Rattle.std.proofs.Common.{◌∙◌, ap}
use Rattle.std.specs.Prelude.{slice_set}
use Rattle.std.specs.List.{position_or_len}
use Rattle.std.proofs.lemmas.List.{get_or_read}
use Rattle.ss_text.specs.Texts.{Row, text_eq}
use Rattle.schema_model.specs.Catalogue.{DatabaseValue}
use Rattle.schema_model.proofs.Asks.{rename_has}
use Rattle.schema_model.specs.States.{plain_databases}
use Rattle.schema_model.proofs.ReadyLemmas.{not_missed, within_seen, relation_not_missed, name_stands, attribute_renamed}
use Rattle.ss_text.specs.Texts.{is_in}
use Rattle.schema_model.proofs.sheets.rename_attribute_ready.Goals as goal

pub unreachable-requires : goal.unreachable-requires
unreachable-requires c =
    let has = rename_has (plain_databases c.args.databases.now.items) c.args.db.now c.args.rel.now c.args.name.now c.args.to.now c.requires.accepted in
    not_missed (λ (d : DatabaseValue). text_eq c.args.db.now d.name) (plain_databases c.args.databases.now.items) has.at.d has.at.database c.in_default.ensures.there

pub unreachable-requires-in_default-place_of : goal.unreachable-requires-in_default-place_of
unreachable-requires-in_default-place_of c =
    let has = rename_has (plain_databases c.args.databases.now.items) c.args.db.now c.args.rel.now c.args.name.now c.args.to.now c.requires.accepted in
    let ds = c.args.databases.now.items in
    let is = get_or_read ds c.in-Ok.db c.index-database.result.now (within_seen ds c.in-Ok.db c.in-Ok.ensures.found.within) c.index-database.ensures c.index-database.result.now in
    relation_not_missed ds c.args.db.now c.args.rel.now c.in-Ok.db 0 c.index-database.result.now c.index-database.result.now c.requires.sound c.in-Ok.ensures.found is has.at.d has.at.r has.at.database has.at.relation c.in_default-place_of.ensures.there

pub renamed-requires : goal.renamed-requires
renamed-requires c =
    let has = rename_has (plain_databases c.args.databases.now.items) c.args.db.now c.args.rel.now c.args.name.now c.args.to.now c.requires.accepted in
    let ds = c.args.databases.now.items in
    let is = get_or_read ds c.in-Ok.db c.index-database.result.now (within_seen ds c.in-Ok.db c.in-Ok.ensures.found.within) c.index-database.ensures c.index-database.result.now in
    ap (is_in c.args.name.now) (c.cells.ensures ∙ c.attributes.ensures.attributes) ∙ name_stands ds c.args.db.now c.args.rel.now c.in-Ok.db c.in-Ok-place_of.rel c.index-database.result.now c.index-database.result.now c.requires.sound c.in-Ok.ensures.found is c.args.name.now has.at.d has.at.r c.relation_at-relation.result.now has.at.database has.at.relation c.in-Ok-place_of.ensures.found c.relation_at-relation.ensures has.there

pub returns : goal.returns
returns c =
    let ds = c.args.databases.now.items in
    let is = get_or_read ds c.in-Ok.db c.index-database.result.now (within_seen ds c.in-Ok.db c.in-Ok.ensures.found.within) c.index-database.ensures c.index-database.result.now in
    let names_are = c.in_ok-attributes.ensures ∙ ap (λ (names : Row). slice_set names (position_or_len (text_eq c.args.name.now) names) c.args.to.now) (c.cells.ensures ∙ c.attributes.ensures.attributes) in
    attribute_renamed ds c.args.db.now c.args.rel.now c.in-Ok.db c.in-Ok-place_of.rel c.index-database.result.now c.index-database.result.now c.requires.sound c.in-Ok.ensures.found is _ c.args.name.now c.args.to.now c.relation_at-relation.result.now c.in_ok-attributes.attributes c.in-Ok-place_of.ensures.found c.relation_at-relation.ensures names_are
