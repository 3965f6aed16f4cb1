use Rattle.std.proofs.Common.{◌≡◌, ◌++◌}
use Rattle.view_folder.proofs.held.all_tables.Given as goal

abbrev pub invariant-loop-label : goal.invariant-loop-label
invariant-loop-label l = l.all ++ l.label-iterator ≡ l.fn.tables.entries
