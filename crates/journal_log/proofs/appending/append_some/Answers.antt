use Rattle.std.proofs.Common.{Bool, List, true, Ok, Err, sym, subst, rules}
use Rattle.course.specs.declared.status.LineStop.TheVariants as line_stop
use Rattle.outside.specs.declared.stop.Stop.TheVariants as stop
use Rattle.change_journal.specs.Lines.{lines_in}
use Rattle.change_journal.specs.Spelled.{Group}
use Rattle.journal_log.specs.Logs.{log_of, KeepsFirst}
use Rattle.journal_log.specs.Room.{appended_to}
use Rattle.journal_log.proofs.LogLemmas.{spellable, room_appended, group_kept, group_doubted, group_lacked}
use Rattle.journal_log.proofs.appending.append_some.Goals as goal

pub append-requires-clause-spellable : goal.append-requires-clause-spellable
append-requires-clause-spellable g c = spellable c.args.group.now c.requires.some c.requires.well_formed

pub returns-in-Ok-clause-keeps : goal.returns-in-Ok-clause-keeps
returns-in-Ok-clause-keeps g c = λ es leaves.
    let old = c.args.disk.now in
    let new = c.append.new.disk in
    let laws = g.met.D.Disk in
    subst (λ (gs : List Group). KeepsFirst {A = Bool} (log_of g.D.Disk.state g.D.Disk.left_since) es (lines_in gs) old new (Ok true))
    (sym (room_appended c.args.journal.now.end c.args.group.now c.requires.some c.in-Ok.ensures.room))
    (group_kept g.D.Disk.state g.D.Disk.left_since es c.args.group.now old new (laws.reads old) (laws.counts_now old) (laws.counts_now new) (laws.only_now new) leaves true c.in-Ok.ensures.any_moment c.in-Ok.ensures.acknowledged)

pub returns-in-Err-DiskFault-clause-keeps : goal.returns-in-Err-DiskFault-clause-keeps
returns-in-Err-DiskFault-clause-keeps g c = λ es leaves.
    let old = c.args.disk.now in
    let new = c.append.new.disk in
    let laws = g.met.D.Disk in
    let moments = rw c.in-Err-DiskFault.field-0-is at c.in-Err-DiskFault.ensures.any_moment in
    let room = c.in-Err-DiskFault.ensures.room_fault (first_of (assumption (c.in-Err-DiskFault.field-0-is), cc (c.in-Err-DiskFault.field-0-is), search rules)) in
    subst (λ (gs : List Group). KeepsFirst {A = Bool} (log_of g.D.Disk.state g.D.Disk.left_since) es (lines_in gs) old new (Err line_stop.DiskFault))
    (sym (room_appended c.args.journal.now.end c.args.group.now c.requires.some room))
    (group_doubted g.D.Disk.state g.D.Disk.left_since es c.args.group.now old new (laws.reads old) (laws.counts_now old) (laws.counts_now new) (laws.only_now new) leaves line_stop.DiskFault moments)

pub returns-in-Err-NoMemory-clause-keeps : goal.returns-in-Err-NoMemory-clause-keeps
returns-in-Err-NoMemory-clause-keeps g c = λ es leaves.
    let old = c.args.disk.now in
    let new = c.append.new.disk in
    let laws = g.met.D.Disk in
    let moments = rw c.in-Err-NoMemory.field-0-is at c.in-Err-NoMemory.ensures.any_moment in
    let there = c.in-Err-NoMemory.ensures.no_memory (first_of (assumption (c.in-Err-NoMemory.field-0-is), cc (c.in-Err-NoMemory.field-0-is), search rules)) in
    group_lacked g.D.Disk.state g.D.Disk.left_since es c.args.group.now old new (laws.reads old) (laws.counts_now old) (laws.counts_now new) (laws.only_now new) leaves
    (line_stop.Stopped stop.NoMemory) (lines_in (appended_to c.args.journal.now.end c.args.group.now)) moments there
