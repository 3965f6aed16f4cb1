use Rattle.std.proofs.Common.{◌≡◌, ◌∷◌, ◌++◌, [], map, take, Bor}
use Rattle.ss_text.specs.Texts.{Row}
use Rattle.schema_model.proofs.ready.all_with_last.Given as goal

abbrev pub invariant-loop-row : goal.invariant-loop-row
invariant-loop-row l = l.made.items ≡ map (λ (row : Bor Row). row.now ++ l.last ∷ []) (take l.row-index l.rows)
