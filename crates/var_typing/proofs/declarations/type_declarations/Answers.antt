use Rattle.std.proofs.Common.{◌∙◌, arith, rules}
use Rattle.std.proofs.lemmas.Result.{err_from_is_err_and}
use Rattle.view_def.specs.declared.written.RawDecl.{RawDecl}
use Rattle.var_typing.specs.Declarations.{typed_range}
use Rattle.var_typing.proofs.FoldLemmas.{alias_folds_more}
use Rattle.var_typing.proofs.DeclarationLemmas.{one_more, declaration_passed, declaration_refused}
use Rattle.var_typing.proofs.WalkLemmas.{map_pushed}
use Rattle.var_typing.proofs.declarations.type_declarations.Goals as goal

pub returns-in_err-range-clause-answer : goal.returns-in_err-range-clause-answer
returns-in_err-range-clause-answer c =
    let i = c.loop-place.invariant in
    let p = err_from_is_err_and c.from_residual.result c.from_residual.ensures.1 in
    rw (p.1, p.2) (declaration_refused c.args.decls.now _ c.loop-place.place c.index-decls-place.result c.loop-place.folds.items (omega arith) c.index-decls-place.is (search rules) i.passed i.taken c.in_err-range.field-0.0 c.in_err-range.ensures.answer)

pub loop-place-preserved : goal.loop-place-preserved
loop-place-preserved c =
    let i = c.loop-place.invariant in
    let h = c.in_ok-range.ensures.answer in
    let ds = c.args.decls.now in
    record {
      passed = declaration_passed ds _ c.loop-place.place c.index-decls-place.result c.loop-place.folds.items (omega arith) c.index-decls-place.is (search rules) i.passed i.taken h.0;
      typed = c.in_ok-push.ensures.items ∙ map_pushed (λ (d : RawDecl). typed_range ds d.range) ds c.loop-place.place c.index-decls-place.result c.loop-place.ranges.items c.in_ok-range.range (omega arith) c.index-decls-place.is i.typed h.1;
      few = one_more ds _ c.loop-place.place c.index-decls-place.result c.loop-place.folds.items (omega arith) c.index-decls-place.is (search rules) i.passed i.taken c.in_ok-range.ensures.few;
      taken = alias_folds_more ds ds c.loop-place.place c.index-decls-place.result c.loop-place.folds.items c.type_declaration.new.folds.items (omega arith) c.index-decls-place.is i.taken c.in_ok-range.ensures.taken;
    }
