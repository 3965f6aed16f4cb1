use Rattle.std.proofs.Common.{◌≡◌, map, take}
use Rattle.schema_model.proofs.catalogue.snapshots.Given as goal

abbrev pub invariant-loop-change : goal.invariant-loop-change
invariant-loop-change l = map (λ s. s.value) l.made.items ≡ take l.change-index l.changes
