use Rattle.std.proofs.Common.{◌<◌, ◌∙◌, ap, sym, arith, length}
use Rattle.std.specs.Prelude.{Ok}
use Rattle.std.proofs.lemmas.Result.{err_from_is_err_and}
use Rattle.view_def.specs.Query.{Query, query_of}
use Rattle.view_def.specs.Tree.{tree_of}
use Rattle.var_typing.proofs.ProfileTheorem.{profile, has_columns}
use Rattle.var_typing.proofs.TypedLemmas.{declarations_refused, header_refused, body_refused, view_typed, spot_within}
use Rattle.var_typing.proofs.view.type_view.Goals as goal

pub returns-in_err-ranges-clause-refused : goal.returns-in_err-ranges-clause-refused
returns-in_err-ranges-clause-refused c =
    let p = err_from_is_err_and c.from_residual.result c.from_residual.ensures.1 in
    rw (p.1, p.2) (declarations_refused (tree_of c.args.view.now) c.as_slice-decls.result.now c.as_slice-decls.ensures.value c.in_err-ranges.field-0.0 c.in_err-ranges.ensures.answer)

pub returns-in_err-header-clause-refused : goal.returns-in_err-header-clause-refused
returns-in_err-header-clause-refused c =
    let p = err_from_is_err_and c.from_residual-in_err-header.result c.from_residual-in_err-header.ensures.1 in
    rw (p.1, p.2) (header_refused (tree_of c.args.view.now) c.as_slice-decls.result.now c.as_slice-decls.ensures.value c.in_ok-ranges.ensures.answer.0 c.in_err-header.field-0.0 c.in_err-header.ensures)

pub returns-in_err-body-clause-refused : goal.returns-in_err-body-clause-refused
returns-in_err-body-clause-refused c =
    let p = err_from_is_err_and c.from_residual-in_err-body.result c.from_residual-in_err-body.ensures.1 in
    rw (p.1, p.2) (body_refused (tree_of c.args.view.now) c.as_slice-decls.result.now c.as_slice-decls.ensures.value c.in_ok-ranges.ensures.answer.0 c.type_declarations.new.folds.items c.in_ok-ranges.ensures.taken c.in_ok-header.ensures.0 c.in_err-body.field-0.0 c.in_err-body.ensures)

pub view_of-requires : goal.view_of-requires
view_of-requires c = λ k is.
    let within : k < length c.in_ok-body.body.terms.items = spot_within (tree_of c.args.view.now) c.in_ok-header.header c.in_ok-body.body c.in_ok-header.ensures.0 c.in_ok-header.ensures.1 c.in_ok-body.ensures.1 k is in
    omega (arith, c.in_ok-body.body.terms.ok.0)

is_typed : goal.returns-clause-view
is_typed c =
    view_typed (tree_of c.args.view.now) c.as_slice-decls.result.now c.as_slice-decls.ensures.value c.in_ok-ranges.ensures.answer.0 c.type_declarations.new.folds.items c.in_ok-ranges.ensures.taken c.in_ok-header.ensures.0
    c.in_ok-header.header c.in_ok-ranges.ranges.items c.in_ok-body.body c.in_ok-body.ensures.0 c.in_ok-header.ensures.1 c.in_ok-ranges.ensures.answer.1 c.in_ok-body.ensures.1
    ∙ ap (λ (q : Query). Ok q) (sym c.in_ok-view_of.ensures)

pub returns-clause-view : goal.returns-clause-view
returns-clause-view c = is_typed c

pub returns-clause-profile : goal.returns-clause-profile
returns-clause-profile c = profile (tree_of c.args.view.now) (query_of c.in_ok-view_of.field-0) (is_typed c)

pub returns-clause-constants : goal.returns-clause-constants
returns-clause-constants c = (has_columns (tree_of c.args.view.now) (query_of c.in_ok-view_of.field-0) (is_typed c)).0

pub returns-clause-keys : goal.returns-clause-keys
returns-clause-keys c = (has_columns (tree_of c.args.view.now) (query_of c.in_ok-view_of.field-0) (is_typed c)).1
