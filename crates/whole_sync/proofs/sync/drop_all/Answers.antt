use Rattle.std.proofs.Common.{arith, refl, ap, length}
use Rattle.whole_sync.specs.Disks.{DropBeside}
use Rattle.whole_sync.proofs.PutLemmas.{aside_starts, aside_then, aside_does}
use Rattle.whole_sync.proofs.sync.drop_all.Goals as goal

pub loop-name-init : goal.loop-name-init
loop-name-init g c = record { dropped = record { aside = aside_starts _; none = λ _. refl }; steady = omega arith }

pub loop-name-preserved : goal.loop-name-preserved
loop-name-preserved g c = record {
  dropped = record {
    aside = aside_then _ _ _ c.loop-name.invariant.dropped.aside (aside_does (DropBeside c.name-item.result) c.drop_beside.result _ _ refl c.drop_beside.ensures.ok c.drop_beside.ensures.err);
    none = λ empty. absurd (let short = ap length empty in omega arith);
  };
  steady = omega (arith, c.loop-name.invariant.steady, c.drop_beside.ensures.steady);
}
