use Rattle.std.proofs.Common.{◌∙◌, ◌∷◌, [], ap, sym}
use Rattle.ss_text.specs.Texts.{Row, text_eq}
use Rattle.schema_model.specs.Catalogue.{RelationValue, DatabaseValue, with_row}
use Rattle.schema_model.proofs.Asks.{insert_has}
use Rattle.schema_model.specs.declared.edit.RelationEdit.TheVariants.{Add}
use Rattle.schema_model.specs.States.{plain_databases}
use Rattle.schema_model.proofs.ReadyLemmas.{not_missed, relation_not_missed, still_all, inserted}
use Rattle.schema_model.proofs.LinkedLemmas.{alone_next}
use Rattle.schema_model.proofs.ready.insert_ready.Goals as goal

pub unreachable-requires : goal.unreachable-requires
unreachable-requires c =
    let has = insert_has (plain_databases c.args.databases.now.items) c.args.db.now c.args.rel.now c.args.row.now c.requires.accepted in
    not_missed (λ (d : DatabaseValue). text_eq c.args.db.now d.name) (plain_databases c.args.databases.now.items) has.at.d has.at.database c.in_default.ensures.there

pub unreachable-requires-in_default-place_of : goal.unreachable-requires-in_default-place_of
unreachable-requires-in_default-place_of c =
    let has = insert_has (plain_databases c.args.databases.now.items) c.args.db.now c.args.rel.now c.args.row.now c.requires.accepted in
    relation_not_missed c.args.databases.now.items c.args.db.now c.args.rel.now c.in-Ok.db 0 c.index_mut-database.result.now c.index_mut-database.result.now c.requires.sound c.in-Ok.ensures.found c.index_mut-database.ensures.value
    has.at.d has.at.r has.at.database has.at.relation c.in_default-place_of.ensures.there

pub returns-in_err-reserve_row-clause-same : goal.returns-in_err-reserve_row-clause-same
returns-in_err-reserve_row-clause-same c =
    still_all c.args.databases.now.items c.args.db.now c.args.rel.now c.in-Ok.db 0 c.index_mut-database.result.now c.reserve_row.new.self c.requires.sound c.in-Ok.ensures.found c.index_mut-database.ensures.value c.reserve_row.ensures.value

pub returns-clause-same : goal.returns-clause-same
returns-clause-same c =
    still_all c.args.databases.now.items c.args.db.now c.args.rel.now c.in-Ok.db 0 c.index_mut-database.result.now c.reserve_row.new.self c.requires.sound c.in-Ok.ensures.found c.index_mut-database.ensures.value c.reserve_row.ensures.value

pub returns-clause-makes : goal.returns-clause-makes
returns-clause-makes c =
    let is = c.of-asked.ensures ∙ c.in_ok-row.ensures in
    let ready = alone_next c.of-asked.result.value _ (c.in_ok-reserve_row.ensures.ok ∙ ap (λ (row : Row). row ∷ []) (sym c.of-asked.ensures)) in
    inserted c.args.databases.now.items c.args.db.now c.args.rel.now c.in-Ok.db c.in-Ok-place_of.rel c.index_mut-database.result.now c.reserve_row.new.self c.requires.sound c.in-Ok.ensures.found c.index_mut-database.ensures.value
    _ c.args.row.now (Add c.of-asked.result) (λ (r : RelationValue). ap (λ (row : Row). with_row row r) is) c.reserve_row.ensures.value c.in-Ok-place_of.ensures.found (ready, tt)
