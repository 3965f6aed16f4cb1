use Rattle.std.proofs.Common.{◌≤◌, map, drop}
use Rattle.whole_sync.specs.Disks.{Do, Doing}
use Rattle.whole_sync.specs.Protocol.{picked}
use Rattle.whole_sync.proofs.sync.do_all.Given as goal

abbrev pub invariant-loop-one : goal.invariant-loop-one
invariant-loop-one g l =
    let known = g.D.FileCalls.known in
    let faults = g.D.FileCalls.faults in
    record {
      done : Doing (map Do (picked l.making l.moves)) (map Do (picked l.making (drop l.one-index l.moves))) (known l.fn.disk) (known l.disk);
      steady : faults l.fn.disk ≤ faults l.disk;
    }
