use Rattle.std.proofs.Common.{◌∙◌}
use Rattle.std.specs.Vec.Iter.{into_iter_items}
use Rattle.view_folder.proofs.OpeningLemmas.{other_more}
use Rattle.view_folder.proofs.opening.others_among.Goals as goal

pub loop-name-preserved : goal.loop-name-preserved
loop-name-preserved c =
    other_more c.args.files.now c.in_ok-taken.taken.keys c.in-Some.name (into_iter_items c.next.new.self) c.loop-name.others.items _ (c.in_ok-taken.ensures c.in-Some.name) c.in_ok-push_other.ensures
    ∙ rw c.in-Some.ensures.steps.0 at c.loop-name.invariant
