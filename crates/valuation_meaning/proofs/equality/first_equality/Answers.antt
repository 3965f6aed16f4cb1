use Rattle.view_def.specs.Query.{query_of}
use Rattle.valuation_meaning.proofs.EarlyLemmas.{needs_item}
use Rattle.valuation_meaning.proofs.equality.first_equality.Goals as goal

pub returns-in-Some-clause-needs : goal.returns-in-Some-clause-needs
returns-in-Some-clause-needs c =
    let q = query_of c.args.view.now in
    c.in-Some.ensures.needs (needs_item q c.members-member-items.result.now c.loop-member.member-index c.member-item.result c.members-member-items.ensures c.loop-member-test.true c.member-item.is)
