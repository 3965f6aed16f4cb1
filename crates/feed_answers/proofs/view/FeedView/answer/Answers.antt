use Rattle.feed_answers.proofs.TellLemmas.{arrival_does, unsaid_does, arrival_alone}
use Rattle.feed_answers.proofs.view.FeedView.answer.Goals as goal

pub returns-in-Ok-Arrives-clause-does : goal.returns-in-Ok-Arrives-clause-does
returns-in-Ok-Arrives-clause-does g c =
    arrival_does _ _ _ c.args.self.now _ c.in-Ok-Arrives.field-0 c.in-Ok-Arrives.arrival c.in-Ok-Arrives.ensures.answer c.in-Ok-Arrives.field-0-is (c.arrive.ensures.does _)

pub returns-in-Ok-Arrives-clause-idle : goal.returns-in-Ok-Arrives-clause-idle
returns-in-Ok-Arrives-clause-idle g c = arrival_alone c.args.self.now c.arrive.new.self c.in-Ok-Arrives.arrival c.arrive.result c.requires.idle c.arrive.ensures.fed

pub returns-in_ok-fields-in-Err-clause-does : goal.returns-in_ok-fields-in-Err-clause-does
returns-in_ok-fields-in-Err-clause-does g c =
    unsaid_does _ _ _ c.args.self.now _ c.in-Err.fault c.in_ok-fields-in-Err.fields c.in-Err.ensures.answer c.in_ok-fields-in-Err.ensures.some c.in_ok-fields-in-Err.ensures.row (c.refuse.ensures.does _)
