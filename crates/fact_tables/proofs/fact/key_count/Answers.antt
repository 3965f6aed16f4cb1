use Rattle.fact_tables.proofs.FactLemmas.{first_counts}
use Rattle.fact_tables.proofs.fact.key_count.Goals as goal

pub returns-clause-count : goal.returns-clause-count
returns-clause-count t c = first_counts c.args.first.now c.args.facts.now c.like_count.result c.requires c.in-len1-up.len_at_least c.like_count.ensures.count
