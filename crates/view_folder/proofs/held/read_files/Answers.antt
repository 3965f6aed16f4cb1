use Rattle.std.proofs.Common.{◌≡◌, ◌∙◌, [], arith}
use Rattle.std.proofs.lemmas.Grind.{common_steps}
use Rattle.std.specs.Vec.Iter.{into_iter_items}
use Rattle.outside.proofs.ReadingLemmas.{only_read_nothing, only_read_then}
use Rattle.view_folder.proofs.HeldLemmas.{reading_starts, reading_more, reading_refused, reading_done}
use Rattle.view_folder.proofs.held.read_files.Goals as goal

pub loop-name-init : goal.loop-name-init
loop-name-init g c = rw (c.into_iter-name-iterator.ensures.into_iter_gives.0, c.new-tables.ensures.empty) (record {
  told = λ t h. reading_starts c.args.shape.now t c.args.folder.now c.args.names.items;
  keys = tt;
  store = only_read_nothing (g.F.Folders.state c.args.store.now);
})

pub loop-name-preserved : goal.loop-name-preserved
loop-name-preserved g c =
    let inv = rw c.in-Some.ensures.steps.0 at c.loop-name.invariant in
    let read = c.in-Ok.ensures in
    record {
      told = λ t h. reading_more c.args.shape.now t c.args.folder.now c.args.names.items c.in-Some.name (into_iter_items c.next.new.self) c.loop-name.tables.entries c.read_one_more.new.tables.entries
          (inv.told t h) (read.sound t (inv.store.tree ∙ h)) (read.told t (inv.store.tree ∙ h));
      keys = read.keys inv.keys;
      store = only_read_then _ _ _ inv.store read.store;
    }

pub returns-in-Err-clause-refused : goal.returns-in-Err-clause-refused
returns-in-Err-clause-refused g c =
    let inv = rw c.in-Some.ensures.steps.0 at c.loop-name.invariant in
    λ r t h. reading_refused c.args.shape.now t c.args.folder.now c.args.names.items c.in-Some.name (into_iter_items c.next.new.self) c.loop-name.tables.entries _ (inv.told t h) (c.in-Err.ensures.refused r t (inv.store.tree ∙ h))

pub returns-clause-sound : goal.returns-clause-sound
returns-clause-sound g c =
    let left = into_iter_items c.loop-name.name-iterator in
    let none : left ≡ [] = grind (arith, common_steps) in
    λ t h. (reading_done c.args.shape.now t c.args.folder.now c.args.names.items left c.loop-name.tables.entries none (c.loop-name.invariant.told t h)).0

pub returns-clause-told : goal.returns-clause-told
returns-clause-told g c =
    let left = into_iter_items c.loop-name.name-iterator in
    let none : left ≡ [] = grind (arith, common_steps) in
    λ t h. (reading_done c.args.shape.now t c.args.folder.now c.args.names.items left c.loop-name.tables.entries none (c.loop-name.invariant.told t h)).1
