use Rattle.std.proofs.Common.{◌≤◌, take}
use Rattle.whole_sync.specs.Replacing.{PutAll}
use Rattle.whole_sync.proofs.sync.put_all.Given as goal

abbrev pub invariant-loop-edit : goal.invariant-loop-edit
invariant-loop-edit g l =
    let known = g.D.FileCalls.known in
    let faults = g.D.FileCalls.faults in
    record {
      put : PutAll (take l.edit-index l.edits) l.beside.items (known l.fn.disk) (known l.disk);
      steady : faults l.fn.disk ≤ faults l.disk;
    }
