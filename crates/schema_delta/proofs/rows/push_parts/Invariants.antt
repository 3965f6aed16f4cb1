use Rattle.std.proofs.Common.{◌≡◌, ◌++◌, take, map}
use Rattle.std.specs.List.{flat_map}
use Rattle.schema_model.specs.States.{plain_relation}
use Rattle.schema_delta.specs.Flat.{part}
use Rattle.schema_delta.proofs.rows.push_parts.Given as goal

abbrev pub invariant-loop-relation : goal.invariant-loop-relation
invariant-loop-relation l = l.rows.items ≡ l.fn.rows.items ++ flat_map (part l.spec l.db) (map plain_relation (take l.relation-index l.relation-items))
