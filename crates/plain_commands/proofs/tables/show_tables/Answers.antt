use Rattle.view_def.specs.Query.{query_of}
use Rattle.view_stages.proofs.StageLemmas.{refused_clash}
use Rattle.plain_commands.proofs.tables.show_tables.Goals as goal

pub returns-in-Err-Conflict-clause-shows : goal.returns-in-Err-Conflict-clause-shows
returns-in-Err-Conflict-clause-shows c =
    rw (refused_clash c.args.catalogue.now.databases (query_of c.args.view.now) c.in-Err-Conflict.clash (rw c.in-Err-Conflict.field-0-is at c.in-Err-Conflict.ensures.refused)) c.in_ok-fields-in-Err-Conflict.ensures
