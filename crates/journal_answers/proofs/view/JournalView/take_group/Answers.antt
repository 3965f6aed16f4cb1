use Rattle.std.proofs.Common.{◌∙◌}
use Rattle.journal_answers.proofs.TakeLemmas.{group_made, group_unmade, group_taken, group_full, group_refused, kept_made, kept_none, kept_stopped}
use Rattle.journal_answers.proofs.view.JournalView.take_group.Goals as goal

pub returns-in-Ok-true-clause-took : goal.returns-in-Ok-true-clause-took
returns-in-Ok-true-clause-took g c =
    group_taken (record { session = c.view.inside.session; synced = c.view.inside.synced.items; refused = c.view.inside.some_refused; broken = c.view.inside.broken }) c.args.self.now.view c.args.self.now.journal c.view.view_is
    c.as_slice.result.now c.in-Ok-true.field-0 c.in-Ok-propose_group.script c.propose_group.new.self c.settle.new.session c.settle.new.journal
    c.in-Ok-propose_group.ensures.allowed c.in-Ok-propose_group.ensures.script (c.as_slice.ensures.value ∙ c.in-Ok.ensures ∙ c.held_changes.ensures.changes) c.in-Ok-true.field-0-test c.in-Ok-true.ensures.room c.in-Ok-propose_group.ensures.proposed c.in-Ok-true.ensures.made c.in-Ok-true.ensures.journal

pub returns-in-Ok-true-clause-keeps : goal.returns-in-Ok-true-clause-keeps
returns-in-Ok-true-clause-keeps g c = λ es leaves.
    kept_made g.D.Disk.state g.D.Disk.left_since c.args.self.now.journal.end es c.as_slice.result.now _ c.args.disk.now c.settle.new.disk c.in-Ok-true.field-0 _
    (group_made (record { session = c.view.inside.session; synced = c.view.inside.synced.items; refused = c.view.inside.some_refused; broken = c.view.inside.broken }) c.args.self.now.view c.args.self.now.journal c.view.view_is c.as_slice.result.now c.in-Ok-propose_group.ensures.allowed (c.as_slice.ensures.value ∙ c.in-Ok.ensures ∙ c.held_changes.ensures.changes)) (c.in-Ok-true.ensures.keeps es leaves)

pub returns-in-Ok-false-clause-took : goal.returns-in-Ok-false-clause-took
returns-in-Ok-false-clause-took g c =
    group_full (record { session = c.view.inside.session; synced = c.view.inside.synced.items; refused = c.view.inside.some_refused; broken = c.view.inside.broken }) c.args.self.now.view c.args.self.now.journal c.view.view_is c.as_slice.result.now c.in-Ok-false.field-0 c.in-Ok-propose_group.ensures.allowed (c.as_slice.ensures.value ∙ c.in-Ok.ensures ∙ c.held_changes.ensures.changes) c.in-Ok-false.field-0-test c.in-Ok-false.ensures.room

pub returns-in-Ok-propose_group-clause-keeps : goal.returns-in-Ok-propose_group-clause-keeps
returns-in-Ok-propose_group-clause-keeps g c = λ es leaves.
    kept_stopped g.D.Disk.state g.D.Disk.left_since c.args.self.now.journal.end es c.as_slice.result.now _ c.args.disk.now c.settle.new.disk c.in-Err-settle.stop
    (group_made (record { session = c.view.inside.session; synced = c.view.inside.synced.items; refused = c.view.inside.some_refused; broken = c.view.inside.broken }) c.args.self.now.view c.args.self.now.journal c.view.view_is c.as_slice.result.now c.in-Ok-propose_group.ensures.allowed (c.as_slice.ensures.value ∙ c.in-Ok.ensures ∙ c.held_changes.ensures.changes)) (c.in-Err-settle.ensures.keeps es leaves)

pub returns-in-Ok-fault_fields-clause-took : goal.returns-in-Ok-fault_fields-clause-took
returns-in-Ok-fault_fields-clause-took g c =
    group_refused (record { session = c.view.inside.session; synced = c.view.inside.synced.items; refused = c.view.inside.some_refused; broken = c.view.inside.broken }) c.args.self.now.view c.args.self.now.journal c.view.view_is c.in-Err.fault c.in-Ok-fault_fields.fields c.propose_group.new.self c.in-Err.ensures.refused c.in-Ok-fault_fields.ensures c.in-Err.ensures.closed

pub returns-in-Ok-fault_fields-clause-keeps : goal.returns-in-Ok-fault_fields-clause-keeps
returns-in-Ok-fault_fields-clause-keeps g c = λ es leaves.
    kept_none g.D.Disk.state g.D.Disk.left_since c.args.self.now.journal.end es _ c.args.disk.now _
    (group_unmade (record { session = c.view.inside.session; synced = c.view.inside.synced.items; refused = c.view.inside.some_refused; broken = c.view.inside.broken }) c.args.self.now.view c.args.self.now.journal c.view.view_is c.in-Err.fault c.in-Ok-fault_fields.fields c.in-Err.ensures.refused c.in-Ok-fault_fields.ensures) leaves
