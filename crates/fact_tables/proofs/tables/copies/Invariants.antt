use Rattle.std.proofs.Common.{◌≡◌, take}
use Rattle.fact_tables.proofs.tables.copies.Given as goal

abbrev pub invariant-loop-label : goal.invariant-loop-label
invariant-loop-label l = l.texts.items ≡ take l.label-index l.labels
