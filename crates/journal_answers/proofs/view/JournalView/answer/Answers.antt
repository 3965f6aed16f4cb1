use Rattle.std.proofs.Common.{[], Ok, Err, refl, subst}
use Rattle.outside.specs.Effects.{world_of}
use Rattle.ss_text.specs.Texts.{Row}
use Rattle.opened_view.specs.Answers.{refusing}
use Rattle.journal_answers.specs.Answers.{answer, made}
use Rattle.journal_answers.specs.Steps.{Acts}
use Rattle.journal_answers.proofs.ActLemmas.{line_acts, quietly, lacked, sink_blames, sink_unread}
use Rattle.journal_answers.proofs.view.JournalView.answer.Goals as goal

pub returns-in-Ok-clause-acts : goal.returns-in-Ok-clause-acts
returns-in-Ok-clause-acts g c = line_acts g.D.Disk.state g.D.Disk.left_since c.args.self.now c.args.line.now (Ok c.in-Ok.read) c.args.disk.now c.row.new.disk (world_of (g.F.Folders.state c.args.store.now) (g.K.Sink.state c.args.output.now)) (world_of (g.F.Folders.state c.row.new.store) (g.K.Sink.state c.row.new.output)) c.row.new.self c.row.result c.in-Ok.ensures.reads c.row.ensures.acts

pub returns-in-Ok-escape_fields-clause-acts : goal.returns-in-Ok-escape_fields-clause-acts
returns-in-Ok-escape_fields-clause-acts g c =
    let reads = rw c.in-Err-BadEscape.field-0-is at c.in-Err-BadEscape.ensures.reads in
    line_acts g.D.Disk.state g.D.Disk.left_since c.args.self.now c.args.line.now (Err c.in-Err-BadEscape.at) c.args.disk.now c.args.disk.now (world_of (g.F.Folders.state c.args.store.now) (g.K.Sink.state c.args.output.now)) (world_of (g.F.Folders.state c.args.store.now) (g.K.Sink.state c.refuse.new.output)) (record { view = c.refuse.new.self; journal = c.args.self.now.journal }) c.said.result reads
    (subst (λ (x : Row). Acts g.D.Disk.state g.D.Disk.left_since c.args.self.now (refusing c.args.self.now.view x) [] c.args.disk.now c.args.disk.now (world_of (g.F.Folders.state c.args.store.now) (g.K.Sink.state c.args.output.now)) (world_of (g.F.Folders.state c.args.store.now) (g.K.Sink.state c.refuse.new.output)) (record { view = c.refuse.new.self; journal = c.args.self.now.journal }) c.said.result) c.in-Ok-escape_fields.ensures
    (quietly g.D.Disk.state g.D.Disk.left_since c.args.self.now (refusing c.args.self.now.view c.in-Ok-escape_fields.fields) [] c.args.disk.now (world_of (g.F.Folders.state c.args.store.now) (g.K.Sink.state c.args.output.now)) (world_of (g.F.Folders.state c.args.store.now) (g.K.Sink.state c.refuse.new.output)) (record { view = c.refuse.new.self; journal = c.args.self.now.journal }) c.refuse.result c.said.result c.said.ensures
    refl c.requires.ready (c.refuse.ensures.does (g.F.Folders.state c.args.store.now)) c.refuse.ensures.view refl (sink_unread _ _ c.refuse.result c.refuse.ensures.blames) (sink_blames (g.F.Folders.state c.args.store.now) _ _ c.refuse.result c.refuse.ensures.blames)))

pub returns-in-Err-clause-acts : goal.returns-in-Err-clause-acts
returns-in-Err-clause-acts g c = lacked g.D.Disk.state g.D.Disk.left_since c.args.self.now (answer c.args.self.now.view c.args.line.now) (made c.args.self.now.view c.args.line.now) c.args.disk.now (world_of (g.F.Folders.state c.args.store.now) (g.K.Sink.state c.args.output.now)) c.args.self.now

pub returns-in-Err-NoMemory-clause-acts : goal.returns-in-Err-NoMemory-clause-acts
returns-in-Err-NoMemory-clause-acts g c = lacked g.D.Disk.state g.D.Disk.left_since c.args.self.now (answer c.args.self.now.view c.args.line.now) (made c.args.self.now.view c.args.line.now) c.args.disk.now (world_of (g.F.Folders.state c.args.store.now) (g.K.Sink.state c.args.output.now)) c.args.self.now
