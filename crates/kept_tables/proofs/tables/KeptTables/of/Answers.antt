use Rattle.kept_tables.proofs.tables.KeptTables.of.Goals as goal

pub invariant_of-result : goal.invariant_of-result
invariant_of-result t c = record { slots = c.in_ok-slots.ensures.order; ready = λ w none. absurd (cc) }
