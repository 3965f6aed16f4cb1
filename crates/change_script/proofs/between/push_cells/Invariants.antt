use Rattle.std.proofs.Common.{◌≡◌, ◌++◌, take}
use Rattle.std.specs.Prelude.{flat_map, filter_map}
use Rattle.flow_law.specs.Tables.{row_keys}
use Rattle.flow_law.specs.Script.{cell_line}
use Rattle.change_script.proofs.between.push_cells.Given as goal

abbrev pub invariant-loop-row : goal.invariant-loop-row
invariant-loop-row l = l.lines.items ≡ l.initial.lines.items ++ flat_map (λ key. filter_map (cell_line l.label l.old l.new key) l.new.columns) (take l.row (row_keys l.new))
