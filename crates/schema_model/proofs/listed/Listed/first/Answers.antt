use Rattle.std.proofs.Common.{rules}
use Rattle.schema_model.proofs.NumberedLemmas.{first_numbered}
use Rattle.schema_model.proofs.listed.Listed.first.Goals as goal

pub returns-else-is_empty : goal.returns-else-is_empty
returns-else-is_empty c = rw (← c.self.view_is, first_numbered c.self.inside.rows.items) (search rules)
