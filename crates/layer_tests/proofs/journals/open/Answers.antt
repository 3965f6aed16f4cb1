use Rattle.std.proofs.Common.{[], ◌∷◌, ◌++◌, Ok, subst}
use Rattle.change_journal.specs.Opening.{ReadsOn}
use Rattle.change_journal.specs.declared.entries.NextEntry.{NextEntry}
use Rattle.layer_tests.proofs.journals.open.Goals as goal

pub reading-preserved : goal.reading-preserved
reading-preserved g c =
    let groups = c.reading.invariant.1.0 in
    let read = c.in_ok-group.ensures.read groups c.reading.invariant.1.1 in (
      c.next.ensures.reading,
      (
        groups ++ c.in-Entry.group.items ∷ [],
        subst (λ (r : NextEntry). ReadsOn groups c.next.new.self ((g.D.Disk.state c.next.new.disk).content) (Ok r)) c.in-Entry.is read,
      ),
    )
