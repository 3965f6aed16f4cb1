use Rattle.std.proofs.Common.{sym, ap, ◌∙◌}
use Rattle.std.specs.Option.{option_copied}
use Rattle.feed_answers.proofs.TellLemmas.{kept_does}
use Rattle.feed_answers.proofs.view.FeedView.repeat.Goals as goal

pub returns-in-Some-clause-does : goal.returns-in-Some-clause-does
returns-in-Some-clause-does g c = λ s. kept_does _ _ _ c.args.self.now.view _ c.in-Some.handled.now (sym c.handled.ensures ∙ ap option_copied c.in-Some.is) (c.tell_again.ensures.does s)
