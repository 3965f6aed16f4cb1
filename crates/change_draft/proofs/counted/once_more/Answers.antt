use Rattle.change_draft.proofs.counted.once_more.Goals as goal

pub returns-clause-more : goal.returns-clause-more
returns-clause-more c = rw c.in_ok-key.ensures at c.in_ok-add_one.ensures.more
