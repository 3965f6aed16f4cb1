use Rattle.std.proofs.Common.{◌≡◌, ◌++◌, map, take, drop}
use Rattle.std.specs.List.{flat_map}
use Rattle.var_typing.specs.Folds.{SameOthers}
use Rattle.var_typing.specs.Terms.{term_folds, terms_fault, typed_term}
use Rattle.var_typing.proofs.terms.type_terms.Given as goal

-- what is left decides
abbrev pub invariant-loop-term : goal.invariant-loop-term
invariant-loop-term l = record {
  passed : terms_fault l.scope.decls.now l.folds.items (drop l.term-index l.terms) ≡ terms_fault l.scope.decls.now l.initial.folds.items l.terms;
  typed : l.typed.items ≡ map (typed_term l.scope.decls.now) (take l.term-index l.terms);
  taken : SameOthers (l.initial.folds.items ++ flat_map (term_folds l.scope.decls.now) (take l.term-index l.terms)) l.folds.items;
}
