use Rattle.feed_answers.proofs.ArrivalLemmas.{told_does, told_fed}
use Rattle.feed_answers.proofs.view.FeedView.arrive.Goals as goal

pub returns-clause-does : goal.returns-clause-does
returns-clause-does g c = λ s.
    told_does c.args.self.now c.args.arrival c.take.new.self c.in_ok-answer.answer c.in_ok-answer.ensures.took c.requires.idle c.in_ok-source.source _ _ _ c.in_ok-source.ensures (c.tell.ensures.does s)

pub returns-clause-fed : goal.returns-clause-fed
returns-clause-fed g c =
    told_fed c.args.self.now c.args.arrival c.take.new.self c.in_ok-answer.answer c.in_ok-answer.ensures.took c.requires.idle c.tell.result c.in_ok-source.source c.tell.new.self c.in_ok-source.ensures c.tell.ensures.view c.tell.ensures.feeds
