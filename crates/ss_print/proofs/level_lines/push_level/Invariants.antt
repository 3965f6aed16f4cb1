use Rattle.std.proofs.Common.{◌≡◌, ◌++◌, ◌∷◌, map}
use Rattle.std.specs.Vec.Iter.{into_iter_items}
use Rattle.change_script.specs.Printed.{printed}
use Rattle.ss_print.specs.LevelLines.{level_row}
use Rattle.ss_print.proofs.level_lines.push_level.Given as goal

abbrev pub invariant-loop-line : goal.invariant-loop-line
invariant-loop-line l = l.rows.items ++ into_iter_items l.line-iterator ≡ l.fn.rows.items ++ level_row l.level ∷ map printed l.script
