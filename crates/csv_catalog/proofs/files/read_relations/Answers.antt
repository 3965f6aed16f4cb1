use Rattle.std.proofs.Common.{◌≡◌, ◌∙◌, [], length, arith}
use Rattle.std.proofs.lemmas.Grind.{common_steps}
use Rattle.std.specs.Vec.Iter.{into_iter_items}
use Rattle.csv_catalog.proofs.KeptLemmas.{kept_none}
use Rattle.outside.proofs.ReadingLemmas.{only_read_nothing, only_read_then}
use Rattle.csv_catalog.proofs.FilesLemmas.{reading_starts, reading_more, reading_refused, reading_done, fits_start, fits_more}
use Rattle.csv_catalog.proofs.files.read_relations.Goals as goal

pub loop-file-init : goal.loop-file-init
loop-file-init g c = rw (c.into_iter-file-iterator.ensures.into_iter_gives.0, c.new-kept.ensures.items) (record {
  told = λ t h. reading_starts t c.args.db.now c.args.folder.now c.args.files.items c.args.count;
  kept = kept_none c.args.count;
  few = c.requires.few;
  short = fits_start (length c.args.files.items);
  store = only_read_nothing (g.F.Folders.state c.args.store.now);
})

pub loop-file-preserved : goal.loop-file-preserved
loop-file-preserved g c =
    let inv = rw c.in-Some.ensures.steps.0 at c.loop-file.invariant in
    let read = c.in-Ok.ensures in
    record {
      told = λ t h. reading_more t c.args.db.now c.args.folder.now c.args.files.items c.args.count c.in-Some.file (into_iter_items c.next.new.self) c.loop-file.kept.items c.read_one_more.new.kept.items c.loop-file.counted c.in-Ok.now
          (inv.told t h) (read.sound t (inv.store.tree ∙ h)) (read.told t (inv.store.tree ∙ h)) (read.rows t (inv.store.tree ∙ h));
      kept = read.kept c.args.count inv.kept;
      few = read.few;
      short = fits_more (length c.loop-file.kept.items) (length c.read_one_more.new.kept.items) (length (into_iter_items c.next.new.self)) _ read.length inv.short;
      store = only_read_then _ _ _ inv.store read.store;
    }

pub returns-in-Err-clause-refused : goal.returns-in-Err-clause-refused
returns-in-Err-clause-refused g c =
    let inv = rw c.in-Some.ensures.steps.0 at c.loop-file.invariant in
    λ r t h. reading_refused t c.args.db.now c.args.folder.now c.args.files.items c.args.count c.in-Some.file (into_iter_items c.next.new.self) c.loop-file.kept.items c.loop-file.counted _ (inv.told t h) (c.in-Err.ensures.refused r t (inv.store.tree ∙ h))

pub returns-clause-sound : goal.returns-clause-sound
returns-clause-sound g c =
    let left = into_iter_items c.loop-file.file-iterator in
    let none : left ≡ [] = grind (arith, common_steps) in
    λ t h. (reading_done t c.args.db.now c.args.folder.now c.args.files.items c.args.count left c.loop-file.kept.items c.loop-file.counted none (c.loop-file.invariant.told t h)).0

pub returns-clause-told : goal.returns-clause-told
returns-clause-told g c =
    let left = into_iter_items c.loop-file.file-iterator in
    let none : left ≡ [] = grind (arith, common_steps) in
    λ t h. (reading_done t c.args.db.now c.args.folder.now c.args.files.items c.args.count left c.loop-file.kept.items c.loop-file.counted none (c.loop-file.invariant.told t h)).1
