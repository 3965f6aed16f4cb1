use Rattle.std.proofs.Common.{sym, subst}
use Rattle.schema_model.specs.Sound.{IsSound}
use Rattle.schema_model.proofs.group.prepare_all.Goals as goal

pub prepare-requires : goal.prepare-requires
prepare-requires c = subst IsSound (sym c.loop-change.invariant) c.requires
