use Rattle.view_def.specs.Query.{query_of}
use Rattle.valuation_meaning.proofs.AliasLemmas.{alias_agrees}
use Rattle.valuation_meaning.proofs.ListingLemmas.{none_enough, one_enough}
use Rattle.valuation_meaning.proofs.listing.Source.aliased.Goals as goal

pub returns-in-Some-clause-enough : goal.returns-in-Some-clause-enough
returns-in-Some-clause-enough c =
    let s = c.args.self.now in
    rw c.of_text.ensures (one_enough s.catalogue.now.databases (query_of s.view.now) c.args.valuation.now c.args.declaration c.args.attribute.now c.requires.range c.in-Some.cell.now c.in-Some.ensures)

pub returns-in-None-clause-enough : goal.returns-in-None-clause-enough
returns-in-None-clause-enough c =
    let s = c.args.self.now in
    none_enough s.catalogue.now.databases (query_of s.view.now) c.args.valuation.now c.args.declaration c.args.attribute.now c.requires.range c.in-None.ensures

pub returns-in-Some-clause-agree : goal.returns-in-Some-clause-agree
returns-in-Some-clause-agree c =
    let s = c.args.self.now in
    rw c.of_text.ensures (alias_agrees s.catalogue.now.databases (query_of s.view.now) c.args.valuation.now c.args.declaration c.args.attribute.now c.in-Some.cell.now c.requires.agree c.requires.range c.in-Some.ensures)
