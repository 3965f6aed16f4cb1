use Rattle.std.proofs.Common.{◌≡◌, Some, sym, subst, refl}
use Rattle.schema_model.specs.Catalogue.{CatalogueValue, relation_of}
use Rattle.schema_model.specs.States.{plain_relation}
use Rattle.valuation_meaning.proofs.MadeLemmas.{made_more}
use Rattle.valuation_meaning.proofs.indexes.Indexes.first_found.Goals as goal

pub invariant_of-self-2 : goal.invariant_of-self-2
invariant_of-self-2 c =
    let catalogue = c.self.inside.catalogue.now.databases in
    let names = c.args.names in
    let there = subst (λ (cat : CatalogueValue). Some (plain_relation c.in-Some.relation.now) ≡ relation_of cat names.0.now names.1.now) (sym c.self.view_is) c.in-Some.ensures in
    rw c.in_ok-insert.ensures.entries
    (made_more catalogue c.self.inside.made.entries names c.in_ok-index.index c.self.invariant (rw c.in_ok-index.ensures (sym there, refl)))
