use Rattle.std.proofs.Common.{◌<◌, length, arith}
use Rattle.std.proofs.lemmas.Grind.{common_steps}
use Rattle.schema_model.specs.States.{plain_database}
use Rattle.schema_model.proofs.Seen.{kept_seen}
use Rattle.schema_model.proofs.group.settle_database.Goals as goal

pub returns-then-db-len : goal.returns-then-db-len
returns-then-db-len c =
    let ds = c.args.databases.now.items in
    let there : c.args.db < length ds = grind (arith, common_steps) in
    kept_seen plain_database ds c.args.db c.index_mut-database.result.now c.settle_all.new.self there c.index_mut-database.ensures.value c.settle_all.ensures
