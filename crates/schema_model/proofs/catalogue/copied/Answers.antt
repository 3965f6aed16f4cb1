use Rattle.std.proofs.Common.{◌∙◌, sym, ap, subst, map}
use Rattle.schema_model.specs.Catalogue.{CatalogueValue}
use Rattle.schema_model.specs.Sound.{IsCounted}
use Rattle.schema_model.specs.States.{settled, plain_database}
use Rattle.schema_model.proofs.catalogue.copied.Goals as goal

pub invariant_of-result : goal.invariant_of-result
invariant_of-result c = (subst (λ (ds : CatalogueValue). IsCounted ds c.args.rows) (sym (c.in_ok-databases.ensures ∙ ap (map plain_database) c.deref.ensures.value)) c.requires, tt, tt)

pub returns : goal.returns
returns c = ap settled (c.in_ok-databases.ensures ∙ ap (map plain_database) c.deref.ensures.value)
