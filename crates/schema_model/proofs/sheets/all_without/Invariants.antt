use Rattle.std.proofs.Common.{◌≡◌, map, take, Bor}
use Rattle.std.specs.Prelude.{remove}
use Rattle.ss_text.specs.Texts.{Row}
use Rattle.schema_model.proofs.sheets.all_without.Given as goal

abbrev pub invariant-loop-row : goal.invariant-loop-row
invariant-loop-row l = l.made.items ≡ map (λ (row : Bor Row). remove row.now l.place) (take l.row-index l.rows)
