use Rattle.std.proofs.Common.{◌++◌, ◌∷◌, [], List, ◌∙◌, subst, arith, append_assoc}
use Rattle.change_journal.specs.Spelled.{Group}
use Rattle.change_journal.specs.Opening.{HasRead}
use Rattle.journal_log.proofs.ReplayLemmas.{elapses_then}
use Rattle.journal_log.proofs.replaying.read_out.Goals as goal

pub returns-in-End-clause-read : goal.returns-in-End-clause-read
returns-in-End-clause-read g c = λ groups read.
    let so_far = c.reading.invariant.read groups read in
    let next = c.in_ok-next.ensures.read (groups ++ so_far.0) so_far.1 in
    (so_far.0, c.in-End.field-0.end, rw c.in-End.is at next)

pub reading-preserved-in-Entry : goal.reading-preserved-in-Entry
reading-preserved-in-Entry g c =
    let state = g.D.Disk.state in
    let left_since = g.D.Disk.left_since in
    let entry = c.in-Entry.field-0.items in
    record {
      reading = c.in_ok-next.ensures.reading;
      read = λ groups read.
          let so_far = c.reading.invariant.read groups read in
          let next = c.in_ok-next.ensures.read (groups ++ so_far.0) so_far.1 in
          let then = rw c.in-Entry.is at next in
          (so_far.0 ++ entry ∷ [], subst (λ (gs : List Group). HasRead gs c.next.new.entries (state c.next.new.disk).content) (append_assoc groups so_far.0 (entry ∷ [])) then);
      content = c.in_ok-next.ensures.content ∙ c.reading.invariant.content;
      time = elapses_then (state c.args.disk.now) (state c.reading.disk) (state c.next.new.disk) (left_since c.args.disk.now) (left_since c.reading.disk) (left_since c.next.new.disk) c.in_ok-next.ensures.content c.reading.invariant.time c.in_ok-next.ensures.time;
      steady = omega (arith, c.reading.invariant.steady, c.in_ok-next.ensures.steady);
    }
