use Rattle.std.proofs.Common.{◌≡◌, ◌++◌, take}
use Rattle.std.specs.List.{filter_map}
use Rattle.unfold_op.specs.Kept.{place_line, value_held, value_among}
use Rattle.unfold_op.specs.Nets.{now}
use Rattle.unfold_op.proofs.lines.push_cells.Given as goal

abbrev pub invariant-loop-place : goal.invariant-loop-place
invariant-loop-place l = l.lines.items ≡ l.initial.lines.items ++ filter_map (place_line l.label (now l.counts l.nets).keys (now l.counts l.nets).columns (value_held l.counts.cells) (value_among l.present)) (take l.place-index l.places)
