use Rattle.std.proofs.Common.{◌≡◌, take}
use Rattle.std.specs.Prelude.{flat_map}
use Rattle.flow_law.specs.Tables.{table_of}
use Rattle.flow_law.specs.Script.{lines_for}
use Rattle.change_script.proofs.script.Script.between.Given as goal

abbrev pub invariant-loop-label : goal.invariant-loop-label
invariant-loop-label l = l.lines.items ≡ flat_map (λ label. lines_for label (table_of l.old label) (table_of l.new label)) (take l.label-index l.label-items)
