use Rattle.std.proofs.lemmas.Result.{err_from_is_err_and}
use Rattle.plain_commands.proofs.OpeningLemmas.{refusal_off, unprinted, stop_blamed}
use Rattle.plain_commands.proofs.opening.open_folder.Goals as goal

pub returns-in_err-refuse-in-Err : goal.returns-in_err-refuse-in-Err
returns-in_err-refuse-in-Err g c =
    let p = err_from_is_err_and c.from_residual-in_err-refuse-in-Err.result c.from_residual-in_err-refuse-in-Err.ensures.1 in
    let before = g.F.Folders.state c.args.store.now in
    let after = g.F.Folders.state c.read_tables.new.store in
    let old = g.K.Sink.state c.args.output.now in
    let new = g.K.Sink.state c.refuse.new.output in
    let e = c.in_err-refuse-in-Err.field-0.0 in
    let facts = c.in_ok-fields-in-Err.ensures in
    rw (p.1, p.2) (record {
      opens = λ t told. refusal_off c.args.view_db c.args.shape t before after old new c.in-Err.fault c.in_ok-fields-in-Err.fields facts.some c.in-Err.ensures.refused told facts.fields c.read_tables.ensures.store e (c.in_err-refuse-in-Err.ensures.does after);
      only_read = c.read_tables.ensures.store;
      unprinted = unprinted old new e c.in_err-refuse-in-Err.ensures.blames;
      blames = stop_blamed _ _ before after old new e c.read_tables.ensures.store c.in_err-refuse-in-Err.ensures.blames;
    })
