use Rattle.std.proofs.Common.{◌≡◌, map, take}
use Rattle.schema_model.specs.States.{plain_relation}
use Rattle.schema_model.proofs.database.copies.Given as goal

abbrev pub invariant-loop-relation : goal.invariant-loop-relation
invariant-loop-relation l = map plain_relation l.copies.items ≡ map plain_relation (take l.relation-index l.relations)
