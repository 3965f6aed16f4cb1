use Rattle.kept_tables.proofs.ThereLemmas.{labels_ascend}
use Rattle.kept_tables.proofs.tables.KeptTables.slots.Goals as goal

pub returns-clause-ascend : goal.returns-clause-ascend
returns-clause-ascend c = rw (← c.self.view_is) (labels_ascend c.self.inside.slots.items c.self.invariant.slots)
