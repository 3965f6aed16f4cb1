use Rattle.journal_answers.proofs.EndLemmas.{ended_does}
use Rattle.journal_answers.proofs.view.JournalView.end_input.Goals as goal

pub returns-clause-does : goal.returns-clause-does
returns-clause-does g c = ended_does c.args.self.now _ _ _ _ _ (c.in_ok-end_group.ensures.does _) c.in_ok-end_group.ensures.view c.write_named.ensures.does
