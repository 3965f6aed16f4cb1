use Rattle.std.proofs.Common.{◌≡◌, map, take}
use Rattle.change_script.specs.Printed.{printed}
use Rattle.change_script.proofs.printed.script_lines.Given as goal

abbrev pub invariant-loop-line : goal.invariant-loop-line
invariant-loop-line l = l.rows.items ≡ map printed (take l.line-index l.line-items)
