use Rattle.std.proofs.Common.{◌≡◌, None, refl, subst, true, false}
use Rattle.schema_model.specs.Catalogue.{CatalogueValue}
use Rattle.schema_model.specs.Refusals.{fault}
use Rattle.schema_model.specs.declared.change.Change.{Change}
use Rattle.schema_delta.specs.OneRow.{SameHeaders}
use Rattle.schema_delta.proofs.OneRowLaw.{insert_there, delete_there, inserted_as, deleted_as}
use Rattle.schema_delta.proofs.one_row.rows_change.Goals as goal

pub row_change-requires : goal.row_change-requires
row_change-requires c =
    let e = c.args.catalogue.now.databases in
    insert_there e c.in-Insert.db c.in-Insert.rel c.in-Insert.row
    (subst (λ (g : Change). (k : CatalogueValue) × SameHeaders k e × (fault k g ≡ None)) c.in-Insert.is c.requires.there)

pub row_change-requires-in-Delete : goal.row_change-requires-in-Delete
row_change-requires-in-Delete c =
    let e = c.args.catalogue.now.databases in
    delete_there e c.in-Delete.db c.in-Delete.rel c.in-Delete.row
    (subst (λ (g : Change). (k : CatalogueValue) × SameHeaders k e × (fault k g ≡ None)) c.in-Delete.is c.requires.there)

pub returns-in_ok-row_change-in-Insert-clause-moved : goal.returns-in_ok-row_change-in-Insert-clause-moved
returns-in_ok-row_change-in-Insert-clause-moved c =
    let d = c.in_ok-row_change-in-Insert.field-0 in
    rw c.in-Insert.is (inserted_as c.args.spec.now c.args.catalogue.now.databases c.in-Insert.db c.in-Insert.rel c.in-Insert.row true d c.in_ok-row_change-in-Insert.ensures.signed refl)

pub returns-in_ok-row_change-in-Delete-clause-moved : goal.returns-in_ok-row_change-in-Delete-clause-moved
returns-in_ok-row_change-in-Delete-clause-moved c =
    let d = c.in_ok-row_change-in-Delete.field-0 in
    rw c.in-Delete.is (deleted_as c.args.spec.now c.args.catalogue.now.databases c.in-Delete.db c.in-Delete.rel c.in-Delete.row false d c.in_ok-row_change-in-Delete.ensures.signed refl)
