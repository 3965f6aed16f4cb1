use Rattle.std.proofs.lemmas.Result.{err_from_is_err_and}
use Rattle.schema_model.specs.Changes.{after}
use Rattle.view_session.specs.Upkeeps.{view_of}
use Rattle.view_session.proofs.UpkeepLemmas.{stopped_over}
use Rattle.view_session.proofs.moving.propose_accepted.Goals as goal

pub returns-in_err-moved-clause-refused : goal.returns-in_err-moved-clause-refused
returns-in_err-moved-clause-refused g c =
    let p = err_from_is_err_and c.from_residual.result c.from_residual.ensures.1 in
    rw (p.1, p.2) (stopped_over (after c.args.catalogue.now.databases c.args.change.now) (view_of c.args.upkeep.now) c.in_err-moved.field-0.0 c.in_err-moved.ensures.stops)
