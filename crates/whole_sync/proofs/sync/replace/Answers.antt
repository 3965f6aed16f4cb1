use Rattle.std.proofs.Common.{◌≡◌, [], Err, ap}
use Rattle.outside.specs.declared.fault.StoreFault.TheVariants.{NoMemory}
use Rattle.whole_sync.proofs.PutLemmas.{replaced}
use Rattle.whole_sync.proofs.WholeLemmas.{whole_prepared, whole_unprepared, replaced_files, unchanged_then}
use Rattle.whole_sync.proofs.sync.replace.Goals as goal

pub returns-in-Ok-finish-clause-ok : goal.returns-in-Ok-finish-clause-ok
returns-in-Ok-finish-clause-ok g c = replaced _ _ _ _ _ _ c.in-Ok.ensures.ok (rw c.as_slice-listed.ensures.value at c.in-Ok-finish.ensures.done)

pub returns-in-Ok-finish-clause-made : goal.returns-in-Ok-finish-clause-made
returns-in-Ok-finish-clause-made g c = replaced_files _ _ _ (replaced _ _ _ _ _ _ c.in-Ok.ensures.ok (rw c.as_slice-listed.ensures.value at c.in-Ok-finish.ensures.done))

pub returns-in-Ok-finish-clause-whole : goal.returns-in-Ok-finish-clause-whole
returns-in-Ok-finish-clause-whole g c = whole_prepared _ _ _ _ _ _ [] c.in-Ok.ensures.ok (rw c.as_slice-listed.ensures.value at c.in-Ok-finish.ensures.done)

pub returns-in-Ok-clause-whole : goal.returns-in-Ok-clause-whole
returns-in-Ok-clause-whole g c =
    let did = rw c.as_slice-listed.ensures.value at c.in-Err-finish.ensures.done in
    whole_prepared _ _ _ _ _ _ did.0 c.in-Ok.ensures.ok did.1

pub returns-clause-whole : goal.returns-clause-whole
returns-clause-whole g c = whole_unprepared c.args.edits.now _ _ _ _ c.in-Err.ensures.err (rw c.as_slice-names.ensures.value at c.drop_all.ensures.dropped)

pub returns-clause-no_memory : goal.returns-clause-no_memory
returns-clause-no_memory g c = λ is. let same : c.in-Err.fault ≡ NoMemory = cc in unchanged_then _ _ _ (c.in-Err.ensures.no_memory (ap Err same)) c.drop_all.ensures.dropped.aside
