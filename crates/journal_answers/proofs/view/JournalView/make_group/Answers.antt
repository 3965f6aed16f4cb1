use Rattle.std.proofs.Common.{true, [], refl}
use Rattle.std.specs.Prelude.{unwrap_or}
use Rattle.outside.specs.Effects.{world_of}
use Rattle.view_session.specs.Session.{closed}
use Rattle.opened_view.specs.Answers.{giving_up}
use Rattle.journal_answers.specs.Answers.{made_by}
use Rattle.journal_answers.specs.Steps.{ending_group}
use Rattle.journal_answers.proofs.ActLemmas.{scripted, refused, stopped, sink_blames, sink_unread}
use Rattle.journal_answers.proofs.view.JournalView.make_group.Goals as goal

pub returns-in-Ok-Made-clause-acts : goal.returns-in-Ok-Made-clause-acts
returns-in-Ok-Made-clause-acts g c = λ s.
    scripted g.D.Disk.state g.D.Disk.left_since c.args.self.now (ending_group c.args.self.now.view) (made_by (ending_group c.args.self.now.view).said (unwrap_or c.args.self.now.view.session.held [])) c.args.disk.now c.take_group.new.disk
    (world_of s (g.K.Sink.state c.args.output.now)) (world_of s (g.K.Sink.state c.print_script.new.output))
    c.in-Ok-Made.lines c.take_group.new.self c.take_group.new.self c.in-Ok-Made.field-0 c.print_script.result c.said.result c.said.ensures
    (rw c.in-Ok-Made.field-0-is at c.in-Ok-Made.ensures.took) c.in-Ok-Made.ensures.keeps c.in-Ok-Made.ensures.ready c.in-Ok-Made.ensures.disk.later
    (c.print_script.ensures.does s) refl (sink_unread _ _ c.print_script.result c.print_script.ensures.blames) (sink_blames s _ _ c.print_script.result c.print_script.ensures.blames)

pub returns-in-Ok-Refused-clause-acts : goal.returns-in-Ok-Refused-clause-acts
returns-in-Ok-Refused-clause-acts g c = λ s.
    let took = rw c.in-Ok-Refused.field-0-is at c.in-Ok-Refused.ensures.took in
    refused g.D.Disk.state g.D.Disk.left_since c.args.self.now (ending_group c.args.self.now.view) (giving_up c.args.self.now.view c.in-Ok-Refused.fields) (made_by (ending_group c.args.self.now.view).said (unwrap_or c.args.self.now.view.session.held [])) (record c.args.self.now.view { session = closed c.args.self.now.view.session }) (λ x. record { session = x.session; synced = x.synced; refused = true; broken = 0 }) c.args.disk.now c.take_group.new.disk
    (world_of s (g.K.Sink.state c.args.output.now)) (world_of s (g.K.Sink.state c.refuse_group.new.output))
    c.take_group.new.self (record { view = c.refuse_group.new.self; journal = c.take_group.new.self.journal }) c.in-Ok-Refused.field-0 c.refuse_group.result c.said-in-Ok-Refused.result c.said-in-Ok-Refused.ensures
    took c.in-Ok-Refused.ensures.keeps c.in-Ok-Refused.ensures.ready c.in-Ok-Refused.ensures.disk.later
    (c.refuse_group.ensures.does s) c.refuse_group.ensures.view refl refl (sink_unread _ _ c.refuse_group.result c.refuse_group.ensures.blames) (sink_blames s _ _ c.refuse_group.result c.refuse_group.ensures.blames)

pub returns-in-Err-clause-acts : goal.returns-in-Err-clause-acts
returns-in-Err-clause-acts g c = λ s.
    stopped g.D.Disk.state g.D.Disk.left_since c.args.self.now (ending_group c.args.self.now.view) (made_by (ending_group c.args.self.now.view).said (unwrap_or c.args.self.now.view.session.held [])) c.args.disk.now c.take_group.new.disk
    (world_of s (g.K.Sink.state c.args.output.now)) c.take_group.new.self c.in-Err.stop c.in-Err.ensures.only c.in-Err.ensures.keeps c.in-Err.ensures.disk
