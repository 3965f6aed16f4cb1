use Rattle.std.proofs.Common.{◌∙◌, arith}
use Rattle.var_typing.specs.Terms.{typed_term}
use Rattle.var_typing.proofs.TermLemmas.{term_passed, term_taken}
use Rattle.var_typing.proofs.WalkLemmas.{map_pushed}
use Rattle.var_typing.proofs.terms.type_terms.Goals as goal

pub loop-term-preserved : goal.loop-term-preserved
loop-term-preserved c =
    let i = c.loop-term.invariant in
    let ds = c.args.scope.now.decls.now in
    let folds = c.loop-term.folds.items in
    let after = c.type_term.new.folds.items in
    record {
      passed = term_passed ds folds after c.args.terms.now c.loop-term.term-index c.term-item.result (omega arith) c.term-item.is _ i.passed c.in_ok-term.ensures.answer.0 c.in_ok-term.ensures.taken;
      typed = c.in_ok-push.ensures.items ∙ map_pushed (typed_term ds) c.args.terms.now c.loop-term.term-index c.term-item.result c.loop-term.typed.items c.in_ok-term.term (omega arith) c.term-item.is i.typed c.in_ok-term.ensures.answer.1;
      taken = term_taken ds folds after c.args.terms.now c.loop-term.term-index c.term-item.result (omega arith) c.term-item.is _ i.taken c.in_ok-term.ensures.taken;
    }
