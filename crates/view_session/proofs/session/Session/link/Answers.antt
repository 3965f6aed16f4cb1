use Rattle.std.proofs.Common.{◌∙◌, ap, subst, sym}
use Rattle.schema_model.specs.Catalogue.{CatalogueValue}
use Rattle.view_session.specs.Session.{SessionState}
use Rattle.view_session.specs.Upkeeps.{IsKept}
use Rattle.view_session.proofs.WaitLemmas.{can_end_linked}
use Rattle.view_session.proofs.session.Session.link.Goals as goal

pub invariant_of-self : goal.invariant_of-self
invariant_of-self c =
    let s = c.self.inside in
    record {
      kept = subst (λ (x : CatalogueValue). IsKept x s.upkeep) (sym c.link.ensures.base) c.self.invariant.kept;
      shape = c.self.invariant.shape;
      waits = can_end_linked s.catalogue c.link.new.base s.upkeep s.changed s.waits c.link.ensures.base (ap (λ (x : SessionState). x.proposed) c.self.view_is ∙ c.requires.unproposed) c.self.invariant.waits;
    }
