use Rattle.std.proofs.Common.{sym, subst}
use Rattle.change_journal.specs.States.{WindowState}
use Rattle.change_journal.specs.Opening.{HasRead}
use Rattle.change_journal.proofs.Gathering.{reads_on}
use Rattle.change_journal.proofs.entries.Entries.next.Goals as goal

pub returns-clause-read : goal.returns-clause-read
returns-clause-read g c =
    let old = (g.D.Disk.state c.args.disk.now).content in
    let new = (g.D.Disk.state c.read_next.new.disk).content in
    λ groups read.
    reads_on groups c.self.inside.window c.read_next.new.window old new c.read_next.result c.read_next.ensures.content c.read_next.ensures.next
    (subst (λ (w : WindowState). HasRead groups w old) (sym c.self.view_is) read)
