use Rattle.std.proofs.Common.{◌≡◌, ◌++◌, map, take}
use Rattle.flow_law.specs.Script.{columns_beyond}
use Rattle.flow_law.specs.declared.line.TableLine.TheVariants.{ColumnMinus}
use Rattle.change_script.proofs.between.push_columns_gone.Given as goal

abbrev pub invariant-loop-column : goal.invariant-loop-column
invariant-loop-column l = l.lines.items ≡ l.initial.lines.items ++ map (λ column. ColumnMinus l.label column) (columns_beyond l.new.columns (take l.column-index l.old.columns))
