use Rattle.std.proofs.Common.{◌≡◌, ◌≤◌, ◌-◌, length, take}
use Rattle.outside.specs.Streams.{with_bytes}
use Rattle.outside.proofs.acts.print.Given as goal

abbrev pub invariant-loop-at : goal.invariant-loop-at
invariant-loop-at g l =
    let state = g.K.Sink.state in
    record {
      within : l.at ≤ length l.bytes;
      written : (state l.output).held ≡ with_bytes (take l.at l.bytes) (state l.fn.output).held;
      steady : (state l.fn.output).faults ≤ (state l.output).faults;
    }

abbrev pub decreases-loop-at : goal.decreases-loop-at
decreases-loop-at g l = length l.bytes - l.at
