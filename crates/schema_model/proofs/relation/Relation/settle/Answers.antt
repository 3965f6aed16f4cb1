use Rattle.std.proofs.Common.{List, sym, ap, subst}
use Rattle.ss_text.specs.Texts.{Row}
use Rattle.schema_model.specs.Catalogue.{relation_value}
use Rattle.schema_model.specs.Sound.{IsRelation}
use Rattle.schema_model.proofs.relation.Relation.settle.Goals as goal

pub invariant_of-self : goal.invariant_of-self
invariant_of-self c = subst (λ (rows : List Row). IsRelation (relation_value c.self.inside.name c.self.inside.attributes rows)) (sym c.settle.ensures) c.self.invariant

pub returns : goal.returns
returns c = rw (← c.self.view_is) (ap (relation_value c.self.inside.name c.self.inside.attributes) c.settle.ensures)
