use Rattle.std.proofs.Common.{sym, ◌∙◌}
use Rattle.view_answers.proofs.group.answer_begin.Goals as goal

pub returns-then-in_group-clause-does : goal.returns-then-in_group-clause-does
returns-then-in_group-clause-does g c = λ s. rw (sym c.in_group.ensures ∙ c.if-in_group.true) (c.refuse_inside.ensures.does s)

pub returns-else-in_group-clause-does : goal.returns-else-in_group-clause-does
returns-else-in_group-clause-does g c = λ s. rw (sym c.in_group.ensures ∙ c.if-in_group.false) (c.begin_group.ensures.does s)
