use Rattle.std.proofs.Common.{[], ◌∷◌, refl}
use Rattle.outside.specs.Effects.{world_of}
use Rattle.opened_view.specs.Answers.{refusing}
use Rattle.journal_answers.specs.Answers.{made_by}
use Rattle.journal_answers.specs.Steps.{judging}
use Rattle.journal_answers.proofs.ActLemmas.{scripted, refused, stopped, sink_blames, sink_unread}
use Rattle.journal_answers.proofs.view.JournalView.make_change.Goals as goal

pub returns-in-Ok-Made-clause-acts : goal.returns-in-Ok-Made-clause-acts
returns-in-Ok-Made-clause-acts g c = λ s.
    scripted g.D.Disk.state g.D.Disk.left_since c.args.self.now (judging c.args.self.now.view c.args.change.now) (made_by (judging c.args.self.now.view c.args.change.now).said (c.args.change.now ∷ [])) c.args.disk.now c.take_change.new.disk
    (world_of s (g.K.Sink.state c.args.output.now)) (world_of s (g.K.Sink.state c.print_script.new.output))
    c.in-Ok-Made.script c.take_change.new.self c.take_change.new.self c.in-Ok-Made.field-0 c.print_script.result c.said.result c.said.ensures
    (rw c.in-Ok-Made.field-0-is at c.in-Ok-Made.ensures.took) c.in-Ok-Made.ensures.keeps c.in-Ok-Made.ensures.ready c.in-Ok-Made.ensures.disk.later
    (c.print_script.ensures.does s) refl (sink_unread _ _ c.print_script.result c.print_script.ensures.blames) (sink_blames s _ _ c.print_script.result c.print_script.ensures.blames)

pub returns-in-Ok-Refused-clause-acts : goal.returns-in-Ok-Refused-clause-acts
returns-in-Ok-Refused-clause-acts g c = λ s.
    let took = rw c.in-Ok-Refused.field-0-is at c.in-Ok-Refused.ensures.took in
    refused g.D.Disk.state g.D.Disk.left_since c.args.self.now (judging c.args.self.now.view c.args.change.now) (refusing c.args.self.now.view c.in-Ok-Refused.fields) (made_by (judging c.args.self.now.view c.args.change.now).said (c.args.change.now ∷ [])) c.args.self.now.view (λ x. (refusing x c.in-Ok-Refused.fields).view) c.args.disk.now c.take_change.new.disk
    (world_of s (g.K.Sink.state c.args.output.now)) (world_of s (g.K.Sink.state c.refuse.new.output))
    c.take_change.new.self (record { view = c.refuse.new.self; journal = c.take_change.new.self.journal }) c.in-Ok-Refused.field-0 c.refuse.result c.said-in-Ok-Refused.result c.said-in-Ok-Refused.ensures
    took c.in-Ok-Refused.ensures.keeps c.in-Ok-Refused.ensures.ready c.in-Ok-Refused.ensures.disk.later
    (c.refuse.ensures.does s) c.refuse.ensures.view refl refl (sink_unread _ _ c.refuse.result c.refuse.ensures.blames) (sink_blames s _ _ c.refuse.result c.refuse.ensures.blames)

pub returns-in-Err-clause-acts : goal.returns-in-Err-clause-acts
returns-in-Err-clause-acts g c = λ s.
    stopped g.D.Disk.state g.D.Disk.left_since c.args.self.now (judging c.args.self.now.view c.args.change.now) (made_by (judging c.args.self.now.view c.args.change.now).said (c.args.change.now ∷ [])) c.args.disk.now c.take_change.new.disk
    (world_of s (g.K.Sink.state c.args.output.now)) c.take_change.new.self c.in-Err.stop c.in-Err.ensures.only c.in-Err.ensures.keeps c.in-Err.ensures.disk
