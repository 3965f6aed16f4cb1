use Rattle.std.proofs.Common.{◌<◌, ◌∙◌, ◌∷◌, ◌++◌, [], ℕ, sym, arith}
use Rattle.csv_catalog.proofs.JudgedLemmas.{few_so_far, judged_sound}
use Rattle.csv_catalog.proofs.FrontLemmas.{front_refused}
use Rattle.csv_catalog.proofs.front.front_fault.Goals as goal

some_left : (n m : ℕ) → n < m → 0 < m
some_left n m h = omega arith

pub next_fault-requires : goal.next_fault-requires
next_fault-requires c = rw c.deref.ensures.value (few_so_far c.args.count c.loop-records.records.items c.requires.few c.loop-records.invariant.sound)

pub returns-in-Some-2 : goal.returns-in-Some-2
returns-in-Some-2 c = λ rest.
    let inv = c.loop-records.invariant in
    let given = rw c.in-Some.is at (c.in_ok-row.ensures c.args.front c.loop-records.records.items inv.at) in
    let more = rw c.in-Some-3.is at (c.in_ok-next_record.ensures c.args.front (c.loop-records.records.items ++ c.in-Some.row ∷ []) given.0) in
    front_refused c.args.front rest c.args.count c.loop-records.records.items c.in-Some.row _ c.in-Some-2.fault c.requires.long given.0 (some_left _ _ more.1) inv.sound
    (sym (rw c.deref.ensures.value at c.in_ok-fault.ensures) ∙ c.in-Some-2.is)

pub loop-records-preserved : goal.loop-records-preserved
loop-records-preserved c =
    let inv = c.loop-records.invariant in
    let given = rw c.in-Some.is at (c.in_ok-row.ensures c.args.front c.loop-records.records.items inv.at) in
    rw c.in_ok-push.ensures.items (record {
      at = given.0;
      sound = judged_sound c.args.count c.loop-records.records.items c.in-Some.row inv.sound (sym (rw c.deref.ensures.value at c.in_ok-fault.ensures) ∙ c.in_default-2.is);
    })
