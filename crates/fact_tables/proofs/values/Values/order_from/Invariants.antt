use Rattle.std.proofs.Common.{◌≡◌, ◌-◌, drop, length}
use Rattle.ss_text.specs.Texts.{row_cmp}
use Rattle.fact_tables.proofs.values.Values.order_from.Given as goal

abbrev pub invariant-loop-place : goal.invariant-loop-place
invariant-loop-place l = row_cmp (drop l.place l.self) (drop l.place l.others) ≡ row_cmp (drop l.from l.self) (drop l.from l.others)

abbrev pub decreases-loop-place : goal.decreases-loop-place
decreases-loop-place l = length l.self - l.place
