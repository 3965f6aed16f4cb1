use Rattle.view_answers.proofs.group.answer_alone.Goals as goal

pub returns-in-Begin-clause-does : goal.returns-in-Begin-clause-does
returns-in-Begin-clause-does g c = rw c.in-Begin.is (c.answer_begin.ensures.does _)

pub returns-in-Commit-clause-does : goal.returns-in-Commit-clause-does
returns-in-Commit-clause-does g c = rw c.in-Commit.is (c.answer_commit.ensures.does _)

pub returns-in-Abort-clause-does : goal.returns-in-Abort-clause-does
returns-in-Abort-clause-does g c = rw c.in-Abort.is (c.answer_abort.ensures.does _)
