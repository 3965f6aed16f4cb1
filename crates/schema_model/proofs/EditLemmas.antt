-- What an edit makes of the things seen.
use Rattle.std.proofs.Common.{◌≡◌, ◌<◌, ◌∙◌, [], ℕ, List, sym, ap, subst, map, length, slice_index_or, slice_set}
use Rattle.std.specs.Prelude.{insert, remove}
use Rattle.std.specs.List.{AllByRecursion}
use Rattle.ss_text.specs.Texts.{Text}
use Rattle.ss_text.specs.Places.{at_place}
use Rattle.schema_model.specs.Catalogue.{RelationValue, DatabaseValue, CatalogueValue, relation_value, database_value}
use Rattle.schema_model.specs.Sound.{IsRelation, IsDatabase}
use Rattle.schema_model.specs.States.{RelationState, DatabaseState, plain_relation, plain_database}
use Rattle.schema_model.specs.Edits.{relation_edited, database_edited, renamed_at, database_renamed_at}
use Rattle.schema_model.specs.declared.edit.RelationEdit.{RelationEdit}
use Rattle.schema_model.specs.declared.edit.DatabaseEdit.{DatabaseEdit}
use Rattle.schema_model.proofs.Seen.{set_seen, inserted_seen, removed_seen, at_seen, one_of_all}

-- one relation of a database
module _ (rs : List RelationState) (i : ℕ) (shown : RelationState) (h : i < length rs) (is : shown ≡ slice_index_or rs i shown) where
  pub relation_sound : (edit : RelationEdit) → AllByRecursion IsRelation (at_place i (relation_edited edit) (map plain_relation rs)) → IsRelation (relation_edited edit (plain_relation shown))
  relation_sound edit all = subst (λ (s : RelationState). IsRelation (relation_edited edit (plain_relation s))) (sym is) (one_of_all plain_relation IsRelation (relation_edited edit) rs i shown h all)

  pub relation_set : (edit : RelationEdit) (new : RelationState) → plain_relation new ≡ relation_edited edit (plain_relation shown) → map plain_relation (slice_set rs i new) ≡ at_place i (relation_edited edit) (map plain_relation rs)
  relation_set edit new e = set_seen plain_relation (relation_edited edit) rs i new shown h (e ∙ ap (λ (s : RelationState). relation_edited edit (plain_relation s)) is)

  pub relation_renamed : (to : ℕ) (name : Text) (new : RelationState) → plain_relation new ≡ relation_value name shown.attributes (plain_relation shown).rows → map plain_relation (insert (remove rs i) to new) ≡ renamed_at i to name (map plain_relation rs)
  relation_renamed to name new e =
      let value : plain_relation shown ≡ slice_index_or (map plain_relation rs) i (relation_value [] [] []) = ap plain_relation is ∙ sym (at_seen plain_relation rs i shown (relation_value [] [] []) h) in
      inserted_seen plain_relation (remove rs i) to new
      ∙ ap (λ (ys : List RelationValue). insert ys to (plain_relation new)) (removed_seen plain_relation rs i)
      ∙ ap (λ (r : RelationValue). insert (remove (map plain_relation rs) i) to r) (e ∙ ap (λ (r : RelationValue). relation_value name r.attributes r.rows) value)

-- one database of a catalogue
module _ (ds : List DatabaseState) (i : ℕ) (shown : DatabaseState) (h : i < length ds) (is : shown ≡ slice_index_or ds i shown) where
  pub database_sound : (edit : DatabaseEdit) → AllByRecursion IsDatabase (at_place i (database_edited edit) (map plain_database ds)) → IsDatabase (database_edited edit (plain_database shown))
  database_sound edit all = subst (λ (s : DatabaseState). IsDatabase (database_edited edit (plain_database s))) (sym is) (one_of_all plain_database IsDatabase (database_edited edit) ds i shown h all)

  pub database_set : (edit : DatabaseEdit) (new : DatabaseState) → plain_database new ≡ database_edited edit (plain_database shown) → map plain_database (slice_set ds i new) ≡ at_place i (database_edited edit) (map plain_database ds)
  database_set edit new e = set_seen plain_database (database_edited edit) ds i new shown h (e ∙ ap (λ (s : DatabaseState). database_edited edit (plain_database s)) is)

  pub database_renamed : (to : ℕ) (name : Text) (new : DatabaseState) → plain_database new ≡ database_value name (plain_database shown).relations → map plain_database (insert (remove ds i) to new) ≡ database_renamed_at i to name (map plain_database ds)
  database_renamed to name new e =
      let value : plain_database shown ≡ slice_index_or (map plain_database ds) i (database_value [] []) = ap plain_database is ∙ sym (at_seen plain_database ds i shown (database_value [] []) h) in
      inserted_seen plain_database (remove ds i) to new
      ∙ ap (λ (ys : CatalogueValue). insert ys to (plain_database new)) (removed_seen plain_database ds i)
      ∙ ap (λ (d : DatabaseValue). insert (remove (map plain_database ds) i) to d) (e ∙ ap (λ (d : DatabaseValue). database_value name d.relations) value)
