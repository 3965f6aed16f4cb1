use Rattle.feed_answers.proofs.TellLemmas.{fresh_does, again_does, early_does, other_does}
use Rattle.feed_answers.proofs.view.FeedView.tell.Goals as goal

pub returns-in-Fresh-clause-does : goal.returns-in-Fresh-clause-does
returns-in-Fresh-clause-does g c = λ s. fresh_does _ _ _ c.args.self.now c.args.source.now c.args.number c.args.answer c.in-Fresh.is (c.repeat.ensures.does s)

pub returns-in-Kept-clause-does : goal.returns-in-Kept-clause-does
returns-in-Kept-clause-does g c = λ s. again_does _ _ _ c.args.self.now c.args.source.now c.args.number c.args.answer c.in-Kept.is (c.repeat-in-Kept.ensures.does s)

pub returns-in_ok-fields-in-Early-clause-does : goal.returns-in_ok-fields-in-Early-clause-does
returns-in_ok-fields-in-Early-clause-does g c = λ s.
    early_does _ _ _ c.args.self.now c.args.source.now c.args.number c.in-Early.want c.args.answer c.in_ok-fields-in-Early.fields c.in-Early.is c.in_ok-fields-in-Early.ensures (c.refuse.ensures.does s)

pub returns-in_ok-fields-in-OtherChange-clause-does : goal.returns-in_ok-fields-in-OtherChange-clause-does
returns-in_ok-fields-in-OtherChange-clause-does g c = λ s.
    other_does _ _ _ c.args.self.now c.args.source.now c.args.number c.args.answer c.in_ok-fields-in-OtherChange.fields c.in-OtherChange.is c.in_ok-fields-in-OtherChange.ensures (c.refuse-in-OtherChange.ensures.does s)
