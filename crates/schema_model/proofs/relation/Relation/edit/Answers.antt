use Rattle.std.proofs.Common.{sym, ap, subst, List}
use Rattle.ss_text.specs.Texts.{Row}
use Rattle.schema_model.specs.Catalogue.{relation_value}
use Rattle.schema_model.specs.Sound.{IsRelation}
use Rattle.schema_model.proofs.relation.Relation.edit.Goals as goal

pub add-requires : goal.add-requires
add-requires c = let asked = rw (← c.self.view_is, c.in-Add.is) at c.requires in asked.fits.0

pub returns-in-Add-clause-value : goal.returns-in-Add-clause-value
returns-in-Add-clause-value c = rw (← c.self.view_is, c.in-Add.is) (ap (relation_value c.self.inside.name c.self.inside.attributes) c.add.ensures.rows)

pub invariant_of-self-in-Take : goal.invariant_of-self-in-Take
invariant_of-self-in-Take c =
    let asked = rw (← c.self.view_is, c.in-Take.is) at c.requires in
    subst (λ (rows : List Row). IsRelation (relation_value c.self.inside.name c.self.inside.attributes rows)) (sym c.take.ensures.rows) asked.sound

pub returns-in-Take-clause-value : goal.returns-in-Take-clause-value
returns-in-Take-clause-value c = rw (← c.self.view_is, c.in-Take.is) (ap (relation_value c.self.inside.name c.self.inside.attributes) c.take.ensures.rows)

pub invariant_of-self-in-Sheet : goal.invariant_of-self-in-Sheet
invariant_of-self-in-Sheet c =
    let asked = rw (← c.self.view_is, c.in-Sheet.is) at c.requires in
    subst (λ (rows : List Row). IsRelation (relation_value c.self.inside.name c.in-Sheet.attributes rows)) (sym c.replace.ensures.rows) asked.sound

pub returns-in-Sheet-clause-value : goal.returns-in-Sheet-clause-value
returns-in-Sheet-clause-value c = rw (← c.self.view_is, c.in-Sheet.is) (ap (relation_value c.self.inside.name c.in-Sheet.attributes) c.replace.ensures.rows)
