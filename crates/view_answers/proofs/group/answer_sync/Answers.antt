use Rattle.std.proofs.Common.{sym, ◌∙◌}
use Rattle.view_answers.proofs.group.answer_sync.Goals as goal

pub returns-then-in_group-clause-does : goal.returns-then-in_group-clause-does
returns-then-in_group-clause-does g c = rw (sym c.in_group.ensures ∙ c.if-in_group.true) (c.refuse_inside.ensures.does _)

pub returns-else-in_group-clause-does : goal.returns-else-in_group-clause-does
returns-else-in_group-clause-does g c = rw (sym c.in_group.ensures ∙ c.if-in_group.false) c.sync.ensures.does
