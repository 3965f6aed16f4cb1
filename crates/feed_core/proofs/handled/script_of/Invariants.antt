use Rattle.std.proofs.Common.{◌≡◌, map, take}
use Rattle.feed_core.specs.Handled.{line_in}
use Rattle.feed_core.proofs.handled.script_of.Given as goal

abbrev pub invariant-loop-row : goal.invariant-loop-row
invariant-loop-row l = l.lines.items ≡ map line_in (take l.row-index l.rest)
