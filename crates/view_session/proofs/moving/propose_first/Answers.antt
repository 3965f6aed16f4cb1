use Rattle.std.proofs.lemmas.Result.{err_from_is_err_and}
use Rattle.view_session.specs.Upkeeps.{view_of}
use Rattle.view_session.proofs.VerdictLemmas.{one_refused}
use Rattle.view_session.proofs.moving.propose_first.Goals as goal

pub returns-in_err-propose_one-clause-refused : goal.returns-in_err-propose_one-clause-refused
returns-in_err-propose_one-clause-refused g c =
    let p = err_from_is_err_and c.from_residual.result c.from_residual.ensures.1 in
    rw (p.1, p.2) (one_refused c.args.catalogue.now.databases (view_of c.args.upkeep.now) c.args.change.now c.in_err-propose_one.field-0.0 c.in_err-propose_one.ensures.refused)
