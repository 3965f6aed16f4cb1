use Rattle.std.proofs.Common.{◌≤◌}
use Rattle.whole_sync.specs.Replacing.{Dropped}
use Rattle.whole_sync.proofs.sync.drop_all.Given as goal

abbrev pub invariant-loop-name : goal.invariant-loop-name
invariant-loop-name g l =
    let known = g.D.FileCalls.known in
    let faults = g.D.FileCalls.faults in
    record {
      dropped : Dropped l.beside (known l.fn.disk) (known l.disk);
      steady : faults l.fn.disk ≤ faults l.disk;
    }
