use Rattle.std.proofs.Common.{◌≡◌, take}
use Rattle.valuation_meaning.specs.EarlyTests.{terms_now}
use Rattle.valuation_meaning.proofs.early.selected.Given as goal

abbrev pub invariant-loop-term : goal.invariant-loop-term
invariant-loop-term l = terms_now l.terms.items ≡ take l.term-index l.view.keys.items
