use Rattle.std.proofs.Common.{List, sym, ap, subst}
use Rattle.ss_text.specs.Texts.{Row}
use Rattle.schema_model.specs.Catalogue.{relation_value}
use Rattle.schema_model.specs.Sound.{IsRelation}
use Rattle.schema_model.proofs.relation.Relation.own_rows.Goals as goal

pub invariant_of-self : goal.invariant_of-self
invariant_of-self c = subst (λ (rows : List Row). IsRelation (relation_value c.self.inside.name c.self.inside.attributes rows)) (sym c.own.ensures.rows) c.self.invariant

pub returns-clause-value : goal.returns-clause-value
returns-clause-value c = rw (← c.self.view_is) (ap (relation_value c.self.inside.name c.self.inside.attributes) c.own.ensures.rows)
