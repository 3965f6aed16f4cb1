use Rattle.std.proofs.Common.{sym, ap, subst}
use Rattle.schema_model.specs.Catalogue.{CatalogueValue}
use Rattle.schema_model.specs.Sound.{IsCounted}
use Rattle.schema_model.specs.States.{settled}
use Rattle.schema_model.proofs.catalogue.Catalogue.link.Goals as goal

pub invariant_of-self : goal.invariant_of-self
invariant_of-self c = (subst (λ (ds : CatalogueValue). IsCounted ds c.self.inside.rows) (sym c.link_rows.ensures) c.self.invariant.0, tt, tt)

pub returns-in-Delete : goal.returns-in-Delete
returns-in-Delete c = rw (← c.self.view_is) (ap settled c.link_rows.ensures)
