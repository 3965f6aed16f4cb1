use Rattle.std.proofs.Common.{arith}
use Rattle.outside.specs.States.{SinkState}
use Rattle.std.specs.Prelude.{None}
use Rattle.outside.specs.Effects.{Remove}
use Rattle.outside.proofs.EffectLemmas.{performing_starts, performing_more}
use Rattle.view_folder.proofs.LaterLemmas.{counted_more, few_more}
use Rattle.view_folder.proofs.OpeningLemmas.{removing_starts, removing_more}
use Rattle.view_folder.proofs.opening.remove_files.Goals as goal

pub loop-name-init : goal.loop-name-init
loop-name-init g c = record {
  performing = performing_starts _ _;
  removing = λ t was apart there. removing_starts c.args.folder.now c.args.names.now (g.F.Folders.state c.args.store.now) t was apart there;
  counted = omega arith;
  few = omega arith;
}

pub loop-name-preserved : goal.loop-name-preserved
loop-name-preserved g c =
    let so_far = c.loop-name.invariant in
    let did = c.in_ok-remove_file.ensures in
    let sink : SinkState = record { held = None; faults = 0 } in
    let state = g.F.Folders.state in
    let i = c.loop-name.name-index in
    let n = c.loop-name.count in
    record {
      performing = performing_more (Remove c.args.folder.now) _ i c.name-item.result _ _ _ _ _ (omega arith) c.name-item.is so_far.performing did.performs;
      removing = λ t was apart there. removing_more c.args.folder.now c.args.names.now i n c.from.result (state c.loop-name.store) (state c.remove_file.new.store) sink c.name-item.result c.in_ok-remove_file.field-0
          (omega arith) c.name-item.is (so_far.removing t was apart there) (did.performs.does sink) did.was c.from.ensures;
      counted = counted_more (state c.args.store.now).writes (state c.loop-name.store).writes _ n c.from.result c.in_ok-remove_file.field-0 did.counted so_far.counted c.from.ensures;
      few = few_more n i c.from.result c.in_ok-remove_file.field-0 so_far.few c.from.ensures;
    }
