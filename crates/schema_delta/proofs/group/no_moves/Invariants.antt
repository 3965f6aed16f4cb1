use Rattle.std.proofs.Common.{◌≡◌, [], map, take}
use Rattle.schema_delta.proofs.group.no_moves.Given as goal

abbrev pub invariant-loop-spec : goal.invariant-loop-spec
invariant-loop-spec l = l.deltas.items ≡ map (λ s. []) (take l._spec-index l.specs)
