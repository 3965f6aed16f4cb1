use Rattle.std.proofs.Common.{◌≡◌, ◌∙◌, [], sym, ap, refl, arith}
use Rattle.std.proofs.lemmas.Grind.{common_steps}
use Rattle.std.specs.Vec.Iter.{into_iter_items}
use Rattle.outside.proofs.ReadingLemmas.{only_read_nothing, only_read_then}
use Rattle.view_folder.specs.Comparison.{compared}
use Rattle.view_folder.proofs.ComparisonLemmas.{next_same, next_differs, difference_meant}
use Rattle.view_folder.proofs.comparison.first_difference.Goals as goal

pub loop-name-init : goal.loop-name-init
loop-name-init g c = rw c.into_iter-name-iterator.ensures.into_iter_gives.0 (record { told = λ t h. refl; only = only_read_nothing (g.F.Folders.state c.args.store.now) })

pub loop-name-preserved : goal.loop-name-preserved
loop-name-preserved g c =
    let so_far = rw c.in-Some.ensures.steps.0 at c.loop-name.invariant in
    let did = c.in-Ok-None.ensures in
    record {
      told = λ t h. so_far.told t h ∙ next_same c.args.folder.now c.args.files.now t c.in-Some.name (into_iter_items c.next.new.self) (sym c.in-Ok-None.field-0-is ∙ did.told t (so_far.only.tree ∙ h) ∙ difference_meant c.args.folder.now c.args.files.now t c.in-Some.name _ (c.bytes_of-bytes.ensures ∙ c.requires c.in-Some.name));
      only = only_read_then _ _ _ so_far.only did.only_read;
    }

pub returns-in-Ok-Some-clause-told : goal.returns-in-Ok-Some-clause-told
returns-in-Ok-Some-clause-told g c =
    let so_far = rw c.in-Some.ensures.steps.0 at c.loop-name.invariant in
    λ t h. next_differs c.args.folder.now c.args.files.now t c.in-Some.name (into_iter_items c.next.new.self) c.in-Ok-Some.difference (sym c.in-Ok-Some.field-0-is ∙ c.in-Ok-Some.ensures.told t (so_far.only.tree ∙ h) ∙ difference_meant c.args.folder.now c.args.files.now t c.in-Some.name _ (c.bytes_of-bytes.ensures ∙ c.requires c.in-Some.name)) ∙ sym (so_far.told t h)

pub returns-clause-told : goal.returns-clause-told
returns-clause-told g c =
    let left = into_iter_items c.loop-name.name-iterator in
    let none : left ≡ [] = grind (arith, common_steps) in
    λ t h. sym (c.loop-name.invariant.told t h ∙ ap (compared c.args.folder.now c.args.files.now t) none)
