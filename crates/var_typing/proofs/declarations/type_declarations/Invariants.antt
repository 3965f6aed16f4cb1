use Rattle.std.proofs.Common.{◌≡◌, ◌≤◌, take, drop, map}
use Rattle.view_def.specs.declared.written.RawDecl.{RawDecl}
use Rattle.var_typing.specs.Declarations.{alias_folds, declaration_fault, declarations_fault, typed_range}
use Rattle.var_typing.specs.Folds.{SameOthers}
use Rattle.var_typing.specs.Refusals.{in_turn}
use Rattle.var_typing.proofs.declarations.type_declarations.Given as goal

-- what is left decides
abbrev pub invariant-loop-place : goal.invariant-loop-place
invariant-loop-place l = record {
  passed : in_turn (declaration_fault l.decls) (take l.place l.decls) (drop l.place l.decls) ≡ declarations_fault l.decls;
  typed : l.ranges.items ≡ map (λ (d : RawDecl). typed_range l.decls d.range) (take l.place l.decls);
  few : l.place ≤ 8;
  taken : SameOthers (alias_folds l.decls (take l.place l.decls)) l.folds.items;
}
