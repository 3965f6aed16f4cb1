use Rattle.std.proofs.Common.{◌∙◌, sym, ap, subst}
use Rattle.flow_law.specs.Tables.{TablesValue}
use Rattle.view_stack.specs.Limits.{first_limit}
use Rattle.schema_model.specs.Catalogue.{CatalogueValue}
use Rattle.schema_model.specs.States.{CatalogueState}
use Rattle.view_stack.specs.Stands.{database_for, catalogue_for, stands}
use Rattle.view_stack.proofs.StandsLemmas.{stands_itself}
use Rattle.view_stack.proofs.database.catalogue_of.Goals as goal

pub made-requires-clause-within : goal.made-requires-clause-within
made-requires-clause-within c = sym (c.in-None.ensures c.args.view_db.now)

pub returns-in-Some-clause-refused : goal.returns-in-Some-clause-refused
returns-in-Some-clause-refused c =
    ap (λ (ts : TablesValue). first_limit (database_for c.args.view_db.now c.args.shape.now ts)) (sym c.slots-slots.ensures.tables) ∙ sym (c.in-Some.ensures c.args.view_db.now)

pub returns-in_ok-catalogue-in-None-clause-within : goal.returns-in_ok-catalogue-in-None-clause-within
returns-in_ok-catalogue-in-None-clause-within c =
    ap (λ (ts : TablesValue). first_limit (database_for c.args.view_db.now c.args.shape.now ts)) (sym c.slots-slots.ensures.tables) ∙ sym (c.in-None.ensures c.args.view_db.now)

pub returns-in_ok-catalogue-in-None-clause-stands : goal.returns-in_ok-catalogue-in-None-clause-stands
returns-in_ok-catalogue-in-None-clause-stands c =
    let db = c.args.view_db.now in
    let shape = c.args.shape.now in
    let made = ap (λ (x : CatalogueState). x.databases) c.in_ok-catalogue-in-None.ensures ∙ ap (catalogue_for db shape) c.slots-slots.ensures.tables in
    subst (λ (d : CatalogueValue). stands db shape c.args.tables.now.tables d) (sym made) (stands_itself db shape c.args.tables.now.tables)
