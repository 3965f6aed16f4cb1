use Rattle.schema_model.specs.States.{plain_database}
use Rattle.schema_model.proofs.Seen.{kept_seen}
use Rattle.schema_model.proofs.ReadyLemmas.{within_seen}
use Rattle.schema_model.proofs.group.link_rows.Goals as goal

pub returns-in_err-link_rows : goal.returns-in_err-link_rows
returns-in_err-link_rows c =
    let ds = c.args.databases.now.items in
    kept_seen plain_database ds c.in-Some.db c.index_mut-database.result.now c.link_rows.new.self (within_seen ds c.in-Some.db c.in-Some.ensures.0.within) c.index_mut-database.ensures.value c.link_rows.ensures

pub returns-in_ok-link_rows : goal.returns-in_ok-link_rows
returns-in_ok-link_rows c =
    let ds = c.args.databases.now.items in
    kept_seen plain_database ds c.in-Some.db c.index_mut-database.result.now c.link_rows.new.self (within_seen ds c.in-Some.db c.in-Some.ensures.0.within) c.index_mut-database.ensures.value c.link_rows.ensures
