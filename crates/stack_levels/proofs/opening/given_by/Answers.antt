use Rattle.std.proofs.Common.{◌∙◌, ◌∷◌, [], sym, ap, subst}
use Rattle.schema_model.specs.Catalogue.{DatabaseValue}
use Rattle.schema_model.specs.States.{CatalogueState}
use Rattle.flow_law.specs.InOrder.{AreTables}
use Rattle.apply_law.specs.Standing.{tables_of}
use Rattle.view_stack.specs.Limits.{first_limit, IsLiftFault}
use Rattle.stack_levels.specs.Levels.{database_by}
use Rattle.stack_levels.specs.States.{level_standing}
use Rattle.stack_levels.proofs.OpeningLemmas.{database_is}
use Rattle.stack_levels.proofs.opening.given_by.Goals as goal

pub catalogue_of-requires-clause-order : goal.catalogue_of-requires-clause-order
catalogue_of-requires-clause-order c =
    let state = level_standing c.args.level.now in
    subst AreTables (sym c.tables.ensures.tables) (c.shape.ensures.order state.catalogue (tables_of state) c.tables.ensures.verdict)

pub returns-in-Ok-clause-given : goal.returns-in-Ok-clause-given
returns-in-Ok-clause-given c =
    ap (λ (x : CatalogueState). x.databases) c.in-Ok.ensures.catalogue
    ∙ ap (λ (d : DatabaseValue). d ∷ []) (database_is c.args.level.now c.view_db.result.now c.shape.result.now c.tables.result.now.tables c.view_db.ensures.name c.shape.ensures.shape c.tables.ensures.tables c.tables.ensures.verdict)

pub returns-in-Ok-clause-within : goal.returns-in-Ok-clause-within
returns-in-Ok-clause-within c =
    sym (ap first_limit (database_is c.args.level.now c.view_db.result.now c.shape.result.now c.tables.result.now.tables c.view_db.ensures.name c.shape.ensures.shape c.tables.ensures.tables c.tables.ensures.verdict)) ∙ c.in-Ok.ensures.within

pub returns-in-Err-clause-refused : goal.returns-in-Err-clause-refused
returns-in-Err-clause-refused c =
    let l = c.args.level.now in
    c.limit_fault.ensures.refused (first_limit (database_by l.session.catalogue l.session.query))
    (subst (λ (d : DatabaseValue). IsLiftFault (first_limit d) c.in-Err.fault) (database_is l c.view_db.result.now c.shape.result.now c.tables.result.now.tables c.view_db.ensures.name c.shape.ensures.shape c.tables.ensures.tables c.tables.ensures.verdict) c.in-Err.ensures.refused)
