use Rattle.std.proofs.Common.{◌≡◌, ◌++◌, take}
use Rattle.std.specs.Prelude.{filter_map}
use Rattle.flow_law.specs.Tables.{row_at}
use Rattle.flow_law.specs.Script.{cell_line}
use Rattle.change_script.proofs.between.push_cells_of.Given as goal

abbrev pub invariant-loop-column : goal.invariant-loop-column
invariant-loop-column l = l.lines.items ≡ l.initial.lines.items ++ filter_map (cell_line l.label l.old l.new (row_at l.row l.new).0) (take l.column l.new.columns)
