use Rattle.kept_tables.proofs.ThereLemmas.{labels_more}
use Rattle.kept_tables.proofs.labels.labels_of.Goals as goal

pub loop-slot-preserved : goal.loop-slot-preserved
loop-slot-preserved c =
    labels_more c.args.slots.now c.loop-slot.slot-index c.slot-item.result c.loop-slot.labels.items _ c.loop-slot-test.true c.slot-item.is c.loop-slot.invariant c.in_ok-push_label.ensures
