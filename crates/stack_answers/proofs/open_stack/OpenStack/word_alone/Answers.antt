use Rattle.stack_answers.proofs.open_stack.OpenStack.word_alone.Goals as goal

pub returns-in-Begin-clause-does : goal.returns-in-Begin-clause-does
returns-in-Begin-clause-does g c = rw c.in-Begin.is (c.begin_line.ensures.does _)

pub returns-in-Commit-clause-does : goal.returns-in-Commit-clause-does
returns-in-Commit-clause-does g c = rw c.in-Commit.is (c.commit_line.ensures.does _)

pub returns-in-Abort-clause-does : goal.returns-in-Abort-clause-does
returns-in-Abort-clause-does g c = rw c.in-Abort.is (c.abort_line.ensures.does _)
