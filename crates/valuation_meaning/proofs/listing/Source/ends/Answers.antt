use Rattle.view_def.specs.Query.{query_of}
use Rattle.valuation_meaning.proofs.listing.Source.ends.Goals as goal

pub returns-else-fails_member : goal.returns-else-fails_member
returns-else-fails_member c = λ lacks. c.lacks_term.ensures lacks (query_of c.args.self.now.view.now) (rw c.deref-else-fails_member.ensures.value c.requires.terms)
