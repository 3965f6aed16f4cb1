-- What a change that is not refused asks of the relation that it names.
use Rattle.std.proofs.Common.{◌≡◌, ◌<◌, ◌∙◌, Some, None, ap, length, subst, true, false}
use Rattle.std.specs.Prelude.{option_and_then}
use Rattle.std.specs.List.{list_any, position_or_len}
use Rattle.ss_text.specs.Texts.{Text, Row, row_eq, text_eq, is_in}
use Rattle.operator_law.proofs.Weights.{place_within}
use Rattle.fold_op.specs.Sheets.{FitsSheet}
use Rattle.fold_op.specs.declared.change.SheetChange.TheVariants.{Up, Down, Add, Drop, Rename}
use Rattle.schema_model.specs.Catalogue.{RelationValue, CatalogueValue, relation_of, relation_in}
use Rattle.schema_model.specs.Refusals.{fault}
use Rattle.schema_model.specs.declared.change.Change.TheVariants.{Insert, Delete, AddAttribute, DropAttribute, RenameAttribute}
use Rattle.schema_model.proofs.Asks.{Standing, insert_has, delete_has, add_has, drop_has, rename_has}
use Rattle.schema_delta.specs.Flat.{sheet_of}

module _ (c : CatalogueValue) (db rel : Text) where
  pub stands : (at : Standing c db rel) → relation_of c db rel ≡ Some at.r
  stands at = ap (option_and_then (relation_in rel)) at.database ∙ at.relation

  pub there : Standing c db rel → (r : RelationValue) × (relation_of c db rel ≡ Some r)
  there at = (at.r, stands at)

  module _ (r : RelationValue) (found : relation_of c db rel ≡ Some r) where
    same : (at : Standing c db rel) → at.r ≡ r
    same at = let both = stands at in cc

    pub insert_fits : (row : Row) → fault c (Insert db rel row) ≡ None → FitsSheet (Up row) (sheet_of r)
    insert_fits row h =
        let has = insert_has c db rel row h in
        subst (λ (r : RelationValue). length row ≡ length r.attributes) (same has.at) has.fits

    pub delete_fits : (row : Row) → fault c (Delete db rel row) ≡ None → FitsSheet (Down row) (sheet_of r)
    delete_fits row h =
        let has = delete_has c db rel row h in
        subst (λ (r : RelationValue). list_any (row_eq row) r.rows ≡ true) (same has.at) has.row_there

    pub add_fits : (name fill : Text) → fault c (AddAttribute db rel name fill) ≡ None → FitsSheet (Add name fill) (sheet_of r)
    add_fits name fill h =
        let has = add_has c db rel name fill h in
        subst (λ (r : RelationValue). is_in name r.attributes ≡ false) (same has.at) has.new

    name_there : (name : Text) (at : Standing c db rel) → is_in name at.r.attributes ≡ true → position_or_len (text_eq name) r.attributes < length r.attributes
    name_there name at h =
        place_within (text_eq name) r.attributes (subst (λ (r : RelationValue). is_in name r.attributes ≡ true) (same at) h)

    pub drop_fits : (name : Text) → fault c (DropAttribute db rel name) ≡ None → FitsSheet (Drop (position_or_len (text_eq name) r.attributes)) (sheet_of r)
    drop_fits name h = let has = drop_has c db rel name h in name_there name has.at has.there

    pub rename_fits : (name to : Text) → fault c (RenameAttribute db rel name to) ≡ None → FitsSheet (Rename (position_or_len (text_eq name) r.attributes) to) (sheet_of r)
    rename_fits name to h =
        let has = rename_has c db rel name to h in
        (name_there name has.at has.there, subst (λ (r : RelationValue). is_in to r.attributes ≡ false) (same has.at) has.new)
