use Rattle.std.proofs.Common.{◌≡◌, ◌++◌, take}
use Rattle.schema_delta.proofs.behind.push_texts.Given as goal

abbrev pub invariant-loop-text : goal.invariant-loop-text
invariant-loop-text l = l.cells.items ≡ l.fn.cells.items ++ take l.text-index l.texts
