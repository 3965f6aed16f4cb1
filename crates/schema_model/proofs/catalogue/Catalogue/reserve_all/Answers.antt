use Rattle.std.proofs.Common.{sym, subst, List}
use Rattle.schema_model.specs.Catalogue.{CatalogueValue}
use Rattle.schema_model.specs.Sound.{IsCounted}
use Rattle.schema_model.specs.Groups.{IsGroup}
use Rattle.schema_model.specs.declared.change.Change.{Change}
use Rattle.schema_model.proofs.catalogue.Catalogue.reserve_all.Goals as goal

pub invariant_of-self-2 : goal.invariant_of-self-2
invariant_of-self-2 c = (
  subst (λ (ds : CatalogueValue). IsCounted ds c.self.inside.rows) (sym c.in_ok-edit.ensures.same) c.self.invariant.0,
  tt,
  subst (λ (gs : List Change). IsGroup c.group_ready.new.databases.items gs c.in_ok-edit.edit) (sym c.in_ok-of.ensures) c.in_ok-edit.ensures.group,
)
