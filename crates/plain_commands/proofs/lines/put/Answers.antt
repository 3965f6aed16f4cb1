use Rattle.plain_commands.proofs.LabelLemmas.{found_kept, missing_placed, missing_ascends}
use Rattle.plain_commands.proofs.lines.put.Goals as goal

pub returns-in-Ok-clause-labels : goal.returns-in-Ok-clause-labels
returns-in-Ok-clause-labels c =
    let facts = c.in-Ok.ensures in
    found_kept c.args.label.now c.args.labels.now.items _ c.requires (rw c.deref.ensures.value at facts.bound) (rw c.deref.ensures.value at facts.position)

pub returns-in_ok-insert-in-Err-clause-labels : goal.returns-in_ok-insert-in-Err-clause-labels
returns-in_ok-insert-in-Err-clause-labels c =
    let facts = c.in-Err.ensures in
    let placed = missing_placed c.args.label.now c.args.labels.now.items c.in-Err.place c.requires (rw c.deref.ensures.value at facts.bound) (rw c.deref.ensures.value at facts.position) in
    rw (c.in_ok-insert-in-Err.ensures.items, c.in_ok-copy-in-Err.ensures) placed

pub returns-in_ok-insert-in-Err-clause-ascend : goal.returns-in_ok-insert-in-Err-clause-ascend
returns-in_ok-insert-in-Err-clause-ascend c =
    let facts = c.in-Err.ensures in
    let ascends = missing_ascends c.args.label.now c.args.labels.now.items c.in-Err.place c.requires (rw c.deref.ensures.value at facts.bound) (rw c.deref.ensures.value at facts.position) in
    rw (c.in_ok-insert-in-Err.ensures.items, c.in_ok-copy-in-Err.ensures) ascends
