use Rattle.std.proofs.Common.{◌≡◌, None, length}
use Rattle.csv_catalog.specs.Reader.{IsAt, left_of}
use Rattle.csv_catalog.specs.Judged.{fault_so_far}
use Rattle.csv_catalog.proofs.front.front_fault.Given as goal

abbrev pub invariant-loop-records : goal.invariant-loop-records
invariant-loop-records l = record {
  at : IsAt l.fn.front l.records.items l.reader;
  sound : fault_so_far l.count l.records.items ≡ None;
}

abbrev pub decreases-loop-records : goal.decreases-loop-records
decreases-loop-records l = length (left_of l.reader)
