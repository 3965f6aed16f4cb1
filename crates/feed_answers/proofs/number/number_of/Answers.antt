use Rattle.std.proofs.Common.{◌≤◌, ℕ, sym, subst}
use Rattle.std.specs.Prelude.{Option, IfSome}
use Rattle.feed_answers.proofs.NumberLemmas.{number_least}
use Rattle.feed_answers.proofs.number.number_of.Goals as goal

pub returns-clause-least : goal.returns-clause-least
returns-clause-least c = subst (λ (o : Option ℕ). IfSome o (λ n. 1 ≤ n)) (sym c.spelled.ensures) (number_least c.args.text.now)
