use Rattle.std.proofs.Common.{◌≡◌, ◌++◌, take}
use Rattle.view_stack.proofs.database.append.Given as goal

abbrev pub invariant-loop-text : goal.invariant-loop-text
invariant-loop-text l = l.row.items ≡ l.fn.row.items ++ take l.text-index l.texts
