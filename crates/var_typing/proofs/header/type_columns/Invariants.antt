use Rattle.std.proofs.Common.{◌≡◌, [], take, drop}
use Rattle.var_typing.specs.Header.{column_fault, column_places, column_parts, parts_of}
use Rattle.var_typing.specs.Refusals.{in_turn}
use Rattle.var_typing.proofs.header.type_columns.Given as goal

-- what is left decides
abbrev pub invariant-loop-place : goal.invariant-loop-place
invariant-loop-place l = record {
  passed : in_turn (column_fault l.scope.decls.now) (take l.place l.columns) (drop l.place l.columns) ≡ in_turn (column_fault l.scope.decls.now) [] l.columns;
  parts : column_parts l.typed ≡ parts_of (column_places l.scope.decls.now (take l.place l.columns));
}
