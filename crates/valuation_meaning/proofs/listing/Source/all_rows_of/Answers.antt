use Rattle.view_def.specs.Query.{query_of}
use Rattle.valuation_meaning.proofs.ListingLemmas.{rows_enough, rows_agree}
use Rattle.valuation_meaning.proofs.listing.Source.all_rows_of.Goals as goal

pub returns-clause-enough : goal.returns-clause-enough
returns-clause-enough c =
    let s = c.args.self.now in
    rows_enough s.catalogue.now.databases (query_of s.view.now) c.args.valuation.now c.in-Tuples.db c.in-Tuples.rel (rw c.in-Tuples.is at c.requires.range) c.relation_at.result c.relation_at.ensures

pub returns-clause-agree : goal.returns-clause-agree
returns-clause-agree c =
    let s = c.args.self.now in
    rows_agree s.catalogue.now.databases (query_of s.view.now) c.args.valuation.now c.in-Tuples.db c.in-Tuples.rel (rw c.in-Tuples.is at c.requires.range) c.relation_at.result c.requires.agree
