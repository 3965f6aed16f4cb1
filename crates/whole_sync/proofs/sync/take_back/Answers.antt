use Rattle.std.proofs.Common.{inl, inr}
use Rattle.whole_sync.proofs.sync.take_back.Goals as goal

pub returns-in-Ok-clause-taken : goal.returns-in-Ok-clause-taken
returns-in-Ok-clause-taken g c = inl c.in-Ok.ensures.ok

pub returns-in-Err-clause-taken : goal.returns-in-Err-clause-taken
returns-in-Err-clause-taken g c = elim c.in-Err.ensures.err [ inl same ↦ inr (c.clear.ensures.items, same) | inr did ↦ inl did ]
