use Rattle.std.proofs.Common.{◌≡◌, ◌≤◌, take, count_by}
use Rattle.var_typing.specs.Declarations.{ranges_over_rows}
use Rattle.var_typing.proofs.declarations.count_over_rows.Given as goal

abbrev pub invariant-loop-decl : goal.invariant-loop-decl
invariant-loop-decl l = (l.count ≡ count_by ranges_over_rows (take l.decl-index l.decls)) × (l.count ≤ l.decl-index)
