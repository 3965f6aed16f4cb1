use Rattle.std.proofs.Common.{◌≡◌, take}
use Rattle.schema_delta.specs.Flat.{names_of}
use Rattle.schema_delta.proofs.inside.attribute_rows.Given as goal

abbrev pub invariant-loop-name : goal.invariant-loop-name
invariant-loop-name l = l.flat.items ≡ names_of (take l.name-index l.name-items)
