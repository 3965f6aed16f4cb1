use Rattle.std.proofs.lemmas.List.Elements.{All-push}
use Rattle.view_def.specs.Query.{query_of}
use Rattle.valuation_meaning.specs.EarlyTests.{IsEarlyTerm}
use Rattle.valuation_meaning.proofs.EarlyLemmas.{needs_term_item}
use Rattle.valuation_meaning.proofs.early.early_terms.Goals.{in-Some+in_ok-push, in_default}
use Rattle.valuation_meaning.proofs.early.early_terms.Goals as goal

pub loop-term-preserved : goal.loop-term-preserved
loop-term-preserved c =
    let q = query_of c.args.view.now in
    let needs = needs_term_item q c.deref-term-items.result.now c.loop-term.term-index c.term-item.result (rw c.deref-term-items.ensures.value c.in_ok-terms.ensures) c.loop-term-test.true c.term-item.is in
    elim c.match-depth_of_term.branch [
      | in-Some+in_ok-push w ↦
          let bound = rw w.in-Some.is at c.depth_of_term.ensures in
          rw (w.tests-is, w.in_ok-push.ensures.items) (All-push (IsEarlyTerm q) c.loop-term.tests.items _ c.loop-term.invariant (bound, needs))
      | in_default w ↦ rw w.tests-is c.loop-term.invariant
    ]
