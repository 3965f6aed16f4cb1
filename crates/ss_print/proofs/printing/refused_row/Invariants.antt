use Rattle.std.proofs.Common.{◌≡◌, ◌∷◌, codes, take}
use Rattle.ss_print.proofs.printing.refused_row.Given as goal

abbrev pub invariant-loop-field : goal.invariant-loop-field
invariant-loop-field l = l.row.items ≡ codes "refused" ∷ take l.field-index l.fields
