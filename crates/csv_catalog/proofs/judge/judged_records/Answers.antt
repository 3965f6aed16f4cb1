use Rattle.std.proofs.Common.{◌∙◌, sym}
use Rattle.csv_catalog.proofs.JudgedLemmas.{few_so_far, judged_refused, judged_sound}
use Rattle.csv_catalog.proofs.judge.judged_records.Goals as goal

pub next_fault-requires : goal.next_fault-requires
next_fault-requires c = rw c.deref.ensures.value (few_so_far c.args.count c.loop-records.records.items c.requires c.loop-records.invariant.sound)

pub returns-in-Some-2 : goal.returns-in-Some-2
returns-in-Some-2 c =
    let inv = c.loop-records.invariant in
    let given = rw c.in-Some.is at (c.in_ok-row.ensures c.args.bytes.now c.loop-records.records.items inv.at) in
    judged_refused c.args.bytes.now c.args.count c.loop-records.records.items c.in-Some.row _ c.in-Some-2.fault given.0 inv.sound (sym (rw c.deref.ensures.value at c.in_ok-fault.ensures) ∙ c.in-Some-2.is)

pub loop-records-preserved : goal.loop-records-preserved
loop-records-preserved c =
    let inv = c.loop-records.invariant in
    let given = rw c.in-Some.is at (c.in_ok-row.ensures c.args.bytes.now c.loop-records.records.items inv.at) in
    rw c.in_ok-push-in-None.ensures.items (record {
      at = given.0;
      sound = judged_sound c.args.count c.loop-records.records.items c.in-Some.row inv.sound (sym (rw c.deref.ensures.value at c.in_ok-fault.ensures) ∙ c.in-None.is);
    })
