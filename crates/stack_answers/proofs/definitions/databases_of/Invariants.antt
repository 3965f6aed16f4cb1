use Rattle.std.proofs.Common.{◌≡◌, map, take}
use Rattle.view_def.specs.Query.{Query}
use Rattle.stack_levels.specs.Opening.{defined_views}
use Rattle.stack_answers.proofs.definitions.databases_of.Given as goal

abbrev pub invariant-loop-definition : goal.invariant-loop-definition
invariant-loop-definition l = l.databases.items ≡ map (λ (q : Query). q.view_db) (defined_views (take l.definition-index l.definitions))
