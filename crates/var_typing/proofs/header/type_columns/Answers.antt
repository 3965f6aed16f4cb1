use Rattle.std.proofs.Common.{arith}
use Rattle.std.proofs.lemmas.Result.{err_from_is_err_and}
use Rattle.var_typing.proofs.HeaderLemmas.{column_passed, column_refused, column_added}
use Rattle.var_typing.proofs.header.type_columns.Goals as goal

pub returns-in_err-add : goal.returns-in_err-add
returns-in_err-add c =
    let i = c.loop-place.invariant in
    let p = err_from_is_err_and c.from_residual.result c.from_residual.ensures.1 in
    rw (p.1, p.2) (column_refused c.args.scope.now.decls.now c.args.columns.now c.loop-place.place c.index-columns-place.result c.loop-place.typed (omega arith) c.index-columns-place.is i.passed i.parts c.in_err-add.field-0.0 c.in_err-add.ensures.passes)

pub loop-place-preserved : goal.loop-place-preserved
loop-place-preserved c =
    let i = c.loop-place.invariant in
    let ds = c.args.scope.now.decls.now in
    record {
      passed = column_passed ds c.args.columns.now c.loop-place.place c.index-columns-place.result c.loop-place.typed (omega arith) c.index-columns-place.is i.passed i.parts c.in_ok-add.ensures.passes;
      parts = column_added ds c.args.columns.now c.loop-place.place c.index-columns-place.result c.loop-place.typed (omega arith) c.index-columns-place.is i.passed i.parts c.add.new.self c.in_ok-add.ensures.passes c.in_ok-add.ensures.added;
    }
