use Rattle.std.proofs.Common.{◌≡◌, ◌++◌, map, take}
use Rattle.flow_law.specs.Tables.{row_keys}
use Rattle.flow_law.specs.Script.{keys_beyond}
use Rattle.flow_law.specs.declared.line.TableLine.TheVariants.{RowPlus}
use Rattle.change_script.proofs.between.push_rows_new.Given as goal

abbrev pub invariant-loop-row : goal.invariant-loop-row
invariant-loop-row l = l.lines.items ≡ l.initial.lines.items ++ map (λ key. RowPlus l.label key) (keys_beyond (row_keys l.old) (take l.row (row_keys l.new)))
