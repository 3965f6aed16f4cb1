use Rattle.std.proofs.Common.{◌∙◌, ap}
use Rattle.ss_text.specs.Texts.{Row, text_eq}
use Rattle.schema_model.specs.Catalogue.{RelationValue, DatabaseValue}
use Rattle.schema_model.specs.Changes.{less_row}
use Rattle.schema_model.proofs.Asks.{delete_has}
use Rattle.schema_model.specs.declared.edit.RelationEdit.TheVariants.{Take}
use Rattle.schema_model.specs.States.{plain_databases}
use Rattle.schema_model.proofs.ReadyLemmas.{not_missed, relation_not_missed, still_all, deleted}
use Rattle.schema_model.proofs.sheets.delete_ready.Goals as goal

pub unreachable-requires : goal.unreachable-requires
unreachable-requires c =
    let has = delete_has (plain_databases c.args.databases.now.items) c.args.db.now c.args.rel.now c.args.row.now c.requires.accepted in
    not_missed (λ (d : DatabaseValue). text_eq c.args.db.now d.name) (plain_databases c.args.databases.now.items) has.at.d has.at.database c.in_default.ensures.there

pub unreachable-requires-in_default-place_of : goal.unreachable-requires-in_default-place_of
unreachable-requires-in_default-place_of c =
    let has = delete_has (plain_databases c.args.databases.now.items) c.args.db.now c.args.rel.now c.args.row.now c.requires.accepted in
    relation_not_missed c.args.databases.now.items c.args.db.now c.args.rel.now c.in-Ok.db 0 c.index_mut-database.result.now c.index_mut-database.result.now c.requires.sound c.in-Ok.ensures.found c.index_mut-database.ensures.value
    has.at.d has.at.r has.at.database has.at.relation c.in_default-place_of.ensures.there

pub returns-in_err-link_rows-clause-same : goal.returns-in_err-link_rows-clause-same
returns-in_err-link_rows-clause-same c =
    still_all c.args.databases.now.items c.args.db.now c.args.rel.now c.in-Ok.db 0 c.index_mut-database.result.now c.link_rows.new.self c.requires.sound c.in-Ok.ensures.found c.index_mut-database.ensures.value c.link_rows.ensures

pub returns-in_err-own_rows-clause-same : goal.returns-in_err-own_rows-clause-same
returns-in_err-own_rows-clause-same c =
    still_all c.args.databases.now.items c.args.db.now c.args.rel.now c.in-Ok.db 0 c.index_mut-database.result.now c.own_rows.new.self c.requires.sound c.in-Ok.ensures.found c.index_mut-database.ensures.value (c.own_rows.ensures.value ∙ c.link_rows.ensures)

pub returns-clause-same : goal.returns-clause-same
returns-clause-same c =
    still_all c.args.databases.now.items c.args.db.now c.args.rel.now c.in-Ok.db 0 c.index_mut-database.result.now c.own_rows.new.self c.requires.sound c.in-Ok.ensures.found c.index_mut-database.ensures.value (c.own_rows.ensures.value ∙ c.link_rows.ensures)

pub returns-clause-makes : goal.returns-clause-makes
returns-clause-makes c =
    deleted c.args.databases.now.items c.args.db.now c.args.rel.now c.in-Ok.db c.in-Ok-place_of.rel c.index_mut-database.result.now c.own_rows.new.self c.requires.sound c.in-Ok.ensures.found c.index_mut-database.ensures.value
    _ c.args.row.now (Take c.in_ok-row.row) (λ (r : RelationValue). ap (λ (row : Row). less_row row r) c.in_ok-row.ensures) (c.own_rows.ensures.value ∙ c.link_rows.ensures) c.in-Ok-place_of.ensures.found (tt, c.in_ok-own_rows.ensures.own)
