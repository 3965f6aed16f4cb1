use Rattle.std.proofs.Common.{List, subst}
use Rattle.std.proofs.lemmas.Result.{err_from_is_err_and}
use Rattle.schema_model.specs.Changes.{after_all}
use Rattle.schema_model.specs.declared.change.Change.{Change}
use Rattle.view_engine.specs.Engines.{IsViewFault}
use Rattle.view_session.specs.Upkeeps.{view_of}
use Rattle.view_session.proofs.UpkeepLemmas.{stopped_over}
use Rattle.view_session.proofs.grouped.propose_group.Goals as goal

pub returns-in_err-moved-clause-refused : goal.returns-in_err-moved-clause-refused
returns-in_err-moved-clause-refused g c =
    let a = c.args.catalogue.now.databases in
    let q = view_of c.args.upkeep.now in
    let stop = c.in_err-moved.field-0.0 in
    let p = err_from_is_err_and c.from_residual.result c.from_residual.ensures.1 in
    rw (p.1, p.2) (stopped_over (after_all a c.args.group.draft.changes) q stop (subst (λ (gs : List Change). IsViewFault (after_all a gs) q stop) c.changes.ensures c.in_err-moved.ensures.stops))
