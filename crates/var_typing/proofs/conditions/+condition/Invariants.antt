use Rattle.std.proofs.Common.{◌≡◌, ◌++◌, map, take, drop}
use Rattle.std.specs.List.{flat_map}
use Rattle.view_def.specs.Conditions.{condition_of}
use Rattle.view_def.specs.declared.written.RawCond.{RawCond}
use Rattle.view_def.specs.RawConditions.{raw_of, raws}
use Rattle.var_typing.specs.Folds.{SameOthers}
use Rattle.var_typing.specs.Terms.{term_folds, terms_fault, terms_in_each, typed_condition}
use Rattle.var_typing.proofs.conditions.+condition.Given as goal

-- what is left decides
abbrev pub invariant-type_members-loop-member : goal.invariant-type_members-loop-member
invariant-type_members-loop-member l = record {
  passed : terms_fault l.scope.decls.now l.folds.items (terms_in_each (raws (map raw_of (drop l.member-index l.members)))) ≡ terms_fault l.scope.decls.now l.initial.folds.items (terms_in_each (raws (map raw_of l.members)));
  typed : map condition_of l.typed.items ≡ map (λ (c : RawCond). typed_condition l.scope.decls.now (raw_of c)) (take l.member-index l.members);
  taken : SameOthers (l.initial.folds.items ++ flat_map (term_folds l.scope.decls.now) (terms_in_each (raws (map raw_of (take l.member-index l.members))))) l.folds.items;
}
