use Rattle.std.proofs.Common.{◌≡◌, ◌∙◌, List, Option, map, ap}
use Rattle.std.specs.Prelude.{option_map}
use Rattle.std.proofs.lemmas.Result.{err_from_is_err_and}
use Rattle.view_def.specs.Conditions.{Condition, condition_of}
use Rattle.view_def.specs.RawConditions.{raw_of}
use Rattle.view_def.specs.declared.typed.Term.{Term}
use Rattle.view_def.specs.declared.written.RawDecl.{RawDecl}
use Rattle.var_typing.specs.Terms.{terms_in_filter, typed_term, typed_condition}
use Rattle.var_typing.proofs.TermLemmas.{first_refused, then_more}
use Rattle.var_typing.proofs.view.type_body.Goals as goal

pub returns-in_err-terms : goal.returns-in_err-terms
returns-in_err-terms c =
    let v = c.args.view.now in
    let p = err_from_is_err_and c.from_residual.result c.from_residual.ensures.1 in
    rw (p.1, p.2) (first_refused c.args.scope.now.decls.now v.decls.items c.requires.whole c.args.folds.now.items c.args.folds.now.items c.deref.result.now v.select.items (terms_in_filter (option_map raw_of v.filter)) c.deref.ensures.value c.in_err-terms.field-0.0 c.in_err-terms.ensures.answer)

pub returns-in_err-filter : goal.returns-in_err-filter
returns-in_err-filter c =
    let v = c.args.view.now in
    let p = err_from_is_err_and c.from_residual-in_err-filter.result c.from_residual-in_err-filter.ensures.1 in
    let more = then_more c.args.scope.now.decls.now v.decls.items c.requires.whole c.args.folds.now.items c.type_terms.new.folds.items c.deref.result.now v.select.items (terms_in_filter (option_map raw_of v.filter)) c.deref.ensures.value c.in_ok-terms.ensures.answer.0 c.in_ok-terms.ensures.taken in
    rw (p.1, p.2) (λ n. more ∙ c.in_err-filter.ensures n)

pub returns : goal.returns
returns c =
    let v = c.args.view.now in
    let ds = c.args.scope.now.decls.now in
    let more = then_more ds v.decls.items c.requires.whole c.args.folds.now.items c.type_terms.new.folds.items c.deref.result.now v.select.items (terms_in_filter (option_map raw_of v.filter)) c.deref.ensures.value c.in_ok-terms.ensures.answer.0 c.in_ok-terms.ensures.taken in
    let terms : c.in_ok-terms.terms.items ≡ map (typed_term v.decls.items) v.select.items =
    c.in_ok-terms.ensures.answer.1 ∙ ap (map (typed_term ds)) c.deref.ensures.value ∙ ap (λ (d : List RawDecl). map (typed_term d) v.select.items) c.requires.whole in
    let filter = c.in_ok-filter.ensures.1 ∙ ap (λ (d : List RawDecl). option_map (typed_condition d) (option_map raw_of v.filter)) c.requires.whole in
    (more ∙ c.in_ok-filter.ensures.0, ap (λ (l : List Term). (l, option_map condition_of c.in_ok-filter.filter)) terms ∙ ap (λ (o : Option Condition). (map (typed_term v.decls.items) v.select.items, o)) filter)
