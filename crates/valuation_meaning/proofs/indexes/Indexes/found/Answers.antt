use Rattle.std.proofs.Common.{◌≡◌, subst}
use Rattle.schema_model.specs.Catalogue.{CatalogueValue}
use Rattle.valuation_meaning.specs.Found.{found_in, found_under}
use Rattle.valuation_meaning.proofs.MadeLemmas.{made_of, found_by}
use Rattle.valuation_meaning.proofs.indexes.Indexes.found.Goals as goal

pub returns-in-Some-clause-found : goal.returns-in-Some-clause-found
returns-in-Some-clause-found c =
    let names = c.args.names in
    let t = c.args.text.now in
    let index = c.in-Some.index.now in
    let made = made_of c.self.inside.catalogue.now.databases c.self.inside.made.entries names index c.self.invariant c.in-Some.ensures.value in
    let under = subst (λ (cat : CatalogueValue). found_in c.args.lists index t ≡ found_under cat c.args.lists names.0.now names.1.now names.2.now t) c.self.view_is (found_by c.self.inside.catalogue.now.databases c.args.lists names index t made) in
    rw (← under) c.found.ensures
