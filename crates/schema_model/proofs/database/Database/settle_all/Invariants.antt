use Rattle.std.proofs.Common.{◌≡◌}
use Rattle.schema_model.specs.States.{plain_database}
use Rattle.schema_model.proofs.database.Database.settle_all.Given as goal

abbrev pub invariant-loop-rel : goal.invariant-loop-rel
invariant-loop-rel l = plain_database l.self ≡ plain_database l.fn.self
