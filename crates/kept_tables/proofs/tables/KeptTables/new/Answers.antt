use Rattle.kept_tables.proofs.SlotLemmas.{no_slots}
use Rattle.kept_tables.proofs.tables.KeptTables.new.Goals as goal

pub invariant_of-result : goal.invariant_of-result
invariant_of-result c = record { slots = rw c.new.ensures.items no_slots; ready = λ w none. absurd (cc) }
