use Rattle.journal_log.specs.Logs.{log_of}
use Rattle.journal_log.proofs.LogLemmas.{lacked_first}
use Rattle.journal_answers.proofs.TakeLemmas.{change_made, change_unmade, change_taken, change_full, change_refused, kept_made, kept_none, kept_stopped}
use Rattle.journal_answers.proofs.view.JournalView.take_change.Goals as goal

pub returns-in-Ok-true-clause-took : goal.returns-in-Ok-true-clause-took
returns-in-Ok-true-clause-took g c =
    change_taken (record { session = c.view.inside.session; synced = c.view.inside.synced.items; refused = c.view.inside.some_refused; broken = c.view.inside.broken }) c.args.self.now.view c.args.self.now.journal c.view.view_is c.args.change.now c.requires.alone
    c.from_ref.result.now c.in-Ok-true.field-0 c.in-Ok.script c.propose_change.new.self c.settle.new.session c.settle.new.journal
    c.view.invariant.unproposed c.in-Ok.ensures.accepted c.in-Ok.ensures.script c.from_ref.ensures.value c.in-Ok-true.field-0-test c.in-Ok-true.ensures.room c.in-Ok.ensures.proposed c.in-Ok-true.ensures.made c.in-Ok-true.ensures.journal

pub returns-in-Ok-true-clause-keeps : goal.returns-in-Ok-true-clause-keeps
returns-in-Ok-true-clause-keeps g c = λ es leaves.
    kept_made g.D.Disk.state g.D.Disk.left_since c.args.self.now.journal.end es c.from_ref.result.now _ c.args.disk.now c.settle.new.disk c.in-Ok-true.field-0 _
    (change_made (record { session = c.view.inside.session; synced = c.view.inside.synced.items; refused = c.view.inside.some_refused; broken = c.view.inside.broken }) c.args.self.now.view c.args.self.now.journal c.view.view_is c.args.change.now c.requires.alone c.from_ref.result.now c.in-Ok.ensures.accepted c.from_ref.ensures.value)
    (c.in-Ok-true.ensures.keeps es leaves)

pub returns-in-Ok-false-clause-took : goal.returns-in-Ok-false-clause-took
returns-in-Ok-false-clause-took g c =
    change_full (record { session = c.view.inside.session; synced = c.view.inside.synced.items; refused = c.view.inside.some_refused; broken = c.view.inside.broken }) c.args.self.now.view c.args.self.now.journal c.view.view_is c.args.change.now c.requires.alone
    c.from_ref.result.now c.in-Ok-false.field-0 c.in-Ok.ensures.accepted c.from_ref.ensures.value c.in-Ok-false.field-0-test c.in-Ok-false.ensures.room

pub returns-in-Err-settle-clause-keeps : goal.returns-in-Err-settle-clause-keeps
returns-in-Err-settle-clause-keeps g c = λ es leaves.
    kept_stopped g.D.Disk.state g.D.Disk.left_since c.args.self.now.journal.end es c.from_ref.result.now _ c.args.disk.now c.settle.new.disk c.in-Err-settle.stop
    (change_made (record { session = c.view.inside.session; synced = c.view.inside.synced.items; refused = c.view.inside.some_refused; broken = c.view.inside.broken }) c.args.self.now.view c.args.self.now.journal c.view.view_is c.args.change.now c.requires.alone c.from_ref.result.now c.in-Ok.ensures.accepted c.from_ref.ensures.value)
    (c.in-Err-settle.ensures.keeps es leaves)

pub returns-in-Ok-refused_fields-clause-took : goal.returns-in-Ok-refused_fields-clause-took
returns-in-Ok-refused_fields-clause-took g c =
    change_refused (record { session = c.view.inside.session; synced = c.view.inside.synced.items; refused = c.view.inside.some_refused; broken = c.view.inside.broken }) c.args.self.now.view c.args.self.now.journal c.view.view_is c.args.change.now c.requires.alone
    c.in-Err.refused c.in-Ok-refused_fields.fields c.propose_change.new.self c.in-Err.ensures.refused c.in-Ok-refused_fields.ensures c.in-Err.ensures.same

pub returns-in-Ok-refused_fields-clause-keeps : goal.returns-in-Ok-refused_fields-clause-keeps
returns-in-Ok-refused_fields-clause-keeps g c = λ es leaves.
    kept_none g.D.Disk.state g.D.Disk.left_since c.args.self.now.journal.end es _ c.args.disk.now _
    (change_unmade (record { session = c.view.inside.session; synced = c.view.inside.synced.items; refused = c.view.inside.some_refused; broken = c.view.inside.broken }) c.args.self.now.view c.args.self.now.journal c.view.view_is c.args.change.now c.requires.alone c.in-Err.refused c.in-Ok-refused_fields.fields c.in-Err.ensures.refused c.in-Ok-refused_fields.ensures)
    leaves

pub returns-in-Err-refused_fields-clause-keeps : goal.returns-in-Err-refused_fields-clause-keeps
returns-in-Err-refused_fields-clause-keeps g c = λ es leaves. lacked_first (log_of g.D.Disk.state g.D.Disk.left_since) es _ c.args.disk.now _ leaves
