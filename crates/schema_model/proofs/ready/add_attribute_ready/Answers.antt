use Rattle.std.proofs.Common.{◌≡◌, ◌∙◌, ◌∷◌, ◌++◌, [], sym, ap, subst, refl, map, slice_index_or, Bor}
use Rattle.std.proofs.lemmas.List.{get_or_read}
use Rattle.ss_text.specs.Texts.{Row, text_eq}
use Rattle.schema_model.specs.Catalogue.{DatabaseValue}
use Rattle.schema_model.proofs.Asks.{add_has}
use Rattle.schema_model.specs.States.{DatabaseState, plain_relation, plain_databases}
use Rattle.schema_model.specs.declared.edit.RelationEdit.TheVariants.{Sheet}
use Rattle.schema_model.proofs.ReadyLemmas.{not_missed, within_seen, relation_not_missed, attribute_added, mapped_rows}
use Rattle.schema_model.proofs.ready.add_attribute_ready.Goals as goal

pub unreachable-requires : goal.unreachable-requires
unreachable-requires c =
    let has = add_has (plain_databases c.args.databases.now.items) c.args.db.now c.args.rel.now c.args.name.now c.args.fill.now c.requires.accepted in
    not_missed (λ (d : DatabaseValue). text_eq c.args.db.now d.name) (plain_databases c.args.databases.now.items) has.at.d has.at.database c.in_default.ensures.there

pub unreachable-requires-in_default-place_of : goal.unreachable-requires-in_default-place_of
unreachable-requires-in_default-place_of c =
    let has = add_has (plain_databases c.args.databases.now.items) c.args.db.now c.args.rel.now c.args.name.now c.args.fill.now c.requires.accepted in
    let ds = c.args.databases.now.items in
    let is = get_or_read ds c.in-Ok.db c.index.result.now (within_seen ds c.in-Ok.db c.in-Ok.ensures.found.within) c.index.ensures c.index.result.now in
    relation_not_missed ds c.args.db.now c.args.rel.now c.in-Ok.db 0 c.index.result.now c.index.result.now c.requires.sound c.in-Ok.ensures.found is has.at.d has.at.r has.at.database has.at.relation c.in_default-place_of.ensures.there

pub returns : goal.returns
returns c =
    let ds = c.args.databases.now.items in
    let within = within_seen ds c.in-Ok.db c.in-Ok.ensures.found.within in
    let is = get_or_read ds c.in-Ok.db c.index.result.now within c.index.ensures c.index.result.now in
    let same = get_or_read ds c.in-Ok.db c.index.result.now within c.index.ensures c.index-2.result.now ∙ sym (get_or_read ds c.in-Ok.db c.index-2.result.now within c.index-2.ensures c.index-2.result.now) in
    let r = c.relation_at-relation.result.now in
    let r_is = subst (λ (d : DatabaseState). slice_index_or d.relations c.in-Ok-place_of.rel r ≡ r) (sym same) c.relation_at-relation.ensures in
    let attributes : c.in_ok-attributes.attributes ≡ r.attributes ++ c.args.name.now ∷ [] = c.in_ok-attributes.ensures ∙ ap (λ (names : Row). names ++ c.args.name.now ∷ []) (c.cells.ensures ∙ c.attributes.ensures.attributes) in
    let rows : c.in_ok-rows.rows.items ≡ map (λ (row : Row). row ++ c.args.fill.now ∷ []) (plain_relation r).rows = c.in_ok-rows.ensures ∙ ap (map (λ (row : Bor Row). row.now ++ c.args.fill.now ∷ [])) c.deref.ensures.value ∙ mapped_rows (λ (row : Row). row ++ c.args.fill.now ∷ []) c.in_ok-kept.kept.items (plain_relation r).rows c.in_ok-kept.ensures in
    attribute_added ds c.args.db.now c.args.rel.now c.in-Ok.db c.in-Ok-place_of.rel c.index.result.now c.index.result.now c.requires.sound c.in-Ok.ensures.found is _ c.args.name.now c.args.fill.now r
    (Sheet c.in_ok-attributes.attributes c.in_ok-rows.rows) c.in-Ok-place_of.ensures.found r_is (rw (attributes, rows) refl) (tt, tt)
