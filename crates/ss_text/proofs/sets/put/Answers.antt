use Rattle.ss_text.proofs.Ascends.{found_kept, missing_placed, missing_ascends}
use Rattle.ss_text.proofs.sets.put.Goals as goal

pub returns-in-Ok-clause-items : goal.returns-in-Ok-clause-items
returns-in-Ok-clause-items g c =
    let facts = c.in-Ok.ensures in
    found_kept g.T.Ord.cmp g.met.T.Ord.total c.requires.same c.args.item c.args.items.now.items _ c.requires.ascend (rw c.deref.ensures.value at facts.bound) (rw c.deref.ensures.value at facts.position)

pub returns-in-Ok-insert-clause-items : goal.returns-in-Ok-insert-clause-items
returns-in-Ok-insert-clause-items g c =
    let facts = c.in-Err.ensures in
    let placed = missing_placed g.T.Ord.cmp g.met.T.Ord.total c.requires.same c.args.item c.args.items.now.items c.in-Err.place c.requires.ascend (rw c.deref.ensures.value at facts.bound) (rw c.deref.ensures.value at facts.position) in
    rw c.in-Ok-insert.ensures.items placed

pub returns-in-Ok-insert-clause-ascend : goal.returns-in-Ok-insert-clause-ascend
returns-in-Ok-insert-clause-ascend g c =
    let facts = c.in-Err.ensures in
    let ascends = missing_ascends g.T.Ord.cmp g.met.T.Ord.total c.requires.same c.args.item c.args.items.now.items c.in-Err.place c.requires.ascend (rw c.deref.ensures.value at facts.bound) (rw c.deref.ensures.value at facts.position) in
    rw c.in-Ok-insert.ensures.items ascends
