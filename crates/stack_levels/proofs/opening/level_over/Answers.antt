use Rattle.view_def.specs.Query.{query_of}
use Rattle.stack_levels.proofs.opening.level_over.Goals as goal

pub returns-in-Err-clause-refused : goal.returns-in-Err-clause-refused
returns-in-Err-clause-refused g c = c.view_fault.ensures.refused c.args.catalogue.databases (query_of c.args.definition.view.value) c.in-Err.ensures.refused
