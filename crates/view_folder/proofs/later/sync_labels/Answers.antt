use Rattle.std.proofs.Common.{ap, None, arith}
use Rattle.outside.specs.States.{SinkState}
use Rattle.outside.specs.Effects.{Stored, stored_of}
use Rattle.outside.proofs.EffectLemmas.{performing_starts, performing_more}
use Rattle.view_folder.specs.Sync.{label_synced}
use Rattle.view_folder.proofs.LaterLemmas.{counting_starts, counting_more, counting_done, counted_more, few_more}
use Rattle.view_folder.proofs.later.sync_labels.Goals as goal

pub loop-label-init : goal.loop-label-init
loop-label-init g c = record {
  performing = performing_starts _ _;
  counting = λ s h. counting_starts c.args.folder.now c.args.shape.now (g.T.TableTexts.tables c.args.tables.now) c.args.labels.now s _ h;
  counted = omega arith;
  few = omega arith;
}

pub loop-label-preserved : goal.loop-label-preserved
loop-label-preserved g c =
    let so_far = c.loop-label.invariant in
    let did = c.in_ok-sync_label.ensures in
    let sink : SinkState = record { held = None; faults = 0 } in
    let state = g.F.Folders.state in
    let i = c.loop-label.label-index in
    let n = c.loop-label.count in
    record {
      performing = performing_more (label_synced c.args.folder.now c.args.shape.now (g.T.TableTexts.tables c.args.tables.now)) _ i c.label-item.result _ _ _ _ _ (omega arith) c.label-item.is so_far.performing did.performs;
      counting = λ s h. counting_more c.args.folder.now c.args.shape.now (g.T.TableTexts.tables c.args.tables.now) c.args.labels.now s i n c.from.result (state c.loop-label.store) (state c.sync_label.new.store) sink c.label-item.result c.in_ok-sync_label.field-0
          (omega arith) c.label-item.is (so_far.counting s h) (did.performs.does sink) did.was c.from.ensures;
      counted = counted_more (state c.args.store.now).writes (state c.loop-label.store).writes _ n c.from.result c.in_ok-sync_label.field-0 did.counted so_far.counted c.from.ensures;
      few = few_more n i c.from.result c.in_ok-sync_label.field-0 so_far.few c.from.ensures;
    }

pub returns-clause-count : goal.returns-clause-count
returns-clause-count g c =
    let old = g.F.Folders.state c.args.store.now in
    λ t told apart.
    let s : Stored = record { tree = t; writes = old.writes } in
    counting_done c.args.folder.now c.args.shape.now (g.T.TableTexts.tables c.args.tables.now) c.args.labels.now s c.loop-label.label-index c.loop-label.count _ (omega arith) (c.loop-label.invariant.counting s (ap (λ o. stored_of o old.writes) told)) apart
