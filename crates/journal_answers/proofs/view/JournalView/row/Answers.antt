use Rattle.std.proofs.Common.{[], ◌∷◌, Ok, refl, sym, ap, ◌∙◌}
use Rattle.std.specs.Prelude.{unwrap_or}
use Rattle.outside.specs.Effects.{world_of}
use Rattle.opened_view.specs.Answers.{Answer, by_row, syncing, syncing_view}
use Rattle.journal_answers.specs.Answers.{asked_of, made_by}
use Rattle.journal_answers.specs.Steps.{ending_group, judging, is_script}
use Rattle.journal_answers.proofs.ActLemmas.{acts_as, quietly, lacked, within_as, unbounded}
use Rattle.journal_answers.proofs.TakeLemmas.{group_asked, none_made}
use Rattle.journal_answers.proofs.view.JournalView.row.Goals as goal

pub make_change-requires-clause-formed : goal.make_change-requires-clause-formed
make_change-requires-clause-formed g c = let asks = rw c.in-Ok-Change.field-0-is at c.in-Ok-Change.ensures in asks.formed

pub make_change-requires-clause-alone : goal.make_change-requires-clause-alone
make_change-requires-clause-alone g c = let asks = rw c.in-Ok-Change.field-0-is at c.in-Ok-Change.ensures in asks.alone

pub make_group-requires-clause-open_group : goal.make_group-requires-clause-open_group
make_group-requires-clause-open_group g c = let asks = rw c.in-Ok-Group.field-0-is at c.in-Ok-Group.ensures in asks.open_group

pub returns-in-Ok-Change-clause-acts : goal.returns-in-Ok-Change-clause-acts
returns-in-Ok-Change-clause-acts g c =
    let asks = rw c.in-Ok-Change.field-0-is at c.in-Ok-Change.ensures in
    acts_as g.D.Disk.state g.D.Disk.left_since c.args.self.now (by_row syncing_view c.args.self.now.view c.args.row.now) (judging c.args.self.now.view c.in-Ok-Change.change) (asked_of c.args.self.now.view (Ok c.args.row.now)) (c.in-Ok-Change.change ∷ []) c.args.disk.now c.make_change.new.disk
    (world_of (g.F.Folders.state c.args.store.now) (g.K.Sink.state c.args.output.now)) (world_of (g.F.Folders.state c.args.store.now) (g.K.Sink.state c.make_change.new.output)) c.make_change.new.self c.make_change.result asks.judged asks.asks (c.make_change.ensures.acts (g.F.Folders.state c.args.store.now))

pub returns-in-Ok-Change-clause-within : goal.returns-in-Ok-Change-clause-within
returns-in-Ok-Change-clause-within g c =
    let asks = rw c.in-Ok-Change.field-0-is at c.in-Ok-Change.ensures in
    within_as _ _ _ _ asks.bound c.make_change.ensures.within

pub returns-in-Ok-Group-clause-acts : goal.returns-in-Ok-Group-clause-acts
returns-in-Ok-Group-clause-acts g c =
    let asks = rw c.in-Ok-Group.field-0-is at c.in-Ok-Group.ensures in
    acts_as g.D.Disk.state g.D.Disk.left_since c.args.self.now (by_row syncing_view c.args.self.now.view c.args.row.now) (ending_group c.args.self.now.view) (asked_of c.args.self.now.view (Ok c.args.row.now)) (unwrap_or c.args.self.now.view.session.held []) c.args.disk.now c.make_group.new.disk
    (world_of (g.F.Folders.state c.args.store.now) (g.K.Sink.state c.args.output.now)) (world_of (g.F.Folders.state c.args.store.now) (g.K.Sink.state c.make_group.new.output)) c.make_group.new.self c.make_group.result asks.ends (sym (group_asked c.args.self.now.view (Ok c.args.row.now) asks.open_group)) (c.make_group.ensures.acts (g.F.Folders.state c.args.store.now))

pub returns-in-Ok-Group-clause-within : goal.returns-in-Ok-Group-clause-within
returns-in-Ok-Group-clause-within g c =
    let asks = rw c.in-Ok-Group.field-0-is at c.in-Ok-Group.ensures in
    unbounded _ _ _ asks.bound

pub returns-in-Ok-Sync-clause-acts : goal.returns-in-Ok-Sync-clause-acts
returns-in-Ok-Sync-clause-acts g c =
    let asks = rw c.in-Ok-Sync.field-0-is at c.in-Ok-Sync.ensures in
    acts_as g.D.Disk.state g.D.Disk.left_since c.args.self.now (by_row syncing_view c.args.self.now.view c.args.row.now) (syncing_view c.args.self.now.view) (asked_of c.args.self.now.view (Ok c.args.row.now)) (asked_of c.args.self.now.view (Ok c.args.row.now)) c.args.disk.now c.args.disk.now
    (world_of (g.F.Folders.state c.args.store.now) (g.K.Sink.state c.args.output.now)) (world_of (g.F.Folders.state c.sync_view.new.store) (g.K.Sink.state c.sync_view.new.output)) (record { view = c.sync_view.new.self; journal = c.args.self.now.journal }) c.said.result asks refl
    (quietly g.D.Disk.state g.D.Disk.left_since c.args.self.now (syncing_view c.args.self.now.view) [] c.args.disk.now (world_of (g.F.Folders.state c.args.store.now) (g.K.Sink.state c.args.output.now)) (world_of (g.F.Folders.state c.sync_view.new.store) (g.K.Sink.state c.sync_view.new.output)) (record { view = c.sync_view.new.self; journal = c.args.self.now.journal }) c.sync_view.result c.said.result c.said.ensures
    refl c.requires.ready c.sync_view.ensures.does c.sync_view.ensures.view refl c.sync_view.ensures.no_read c.sync_view.ensures.blames)

pub returns-in-Ok-Other-clause-acts : goal.returns-in-Ok-Other-clause-acts
returns-in-Ok-Other-clause-acts g c =
    let asks = rw c.in-Ok-Other.field-0-is at c.in-Ok-Other.ensures in
    let saving = by_row syncing c.args.self.now.view c.args.row.now in
    acts_as g.D.Disk.state g.D.Disk.left_since c.args.self.now (by_row syncing_view c.args.self.now.view c.args.row.now) saving (asked_of c.args.self.now.view (Ok c.args.row.now)) (asked_of c.args.self.now.view (Ok c.args.row.now)) c.args.disk.now c.args.disk.now
    (world_of (g.F.Folders.state c.args.store.now) (g.K.Sink.state c.args.output.now)) (world_of (g.F.Folders.state c.answer_row.new.store) (g.K.Sink.state c.answer_row.new.output)) (record { view = c.answer_row.new.view; journal = c.args.self.now.journal }) c.said-in-Ok-Other.result asks.alike refl
    (quietly g.D.Disk.state g.D.Disk.left_since c.args.self.now saving (made_by saving.said (asked_of c.args.self.now.view (Ok c.args.row.now))) c.args.disk.now (world_of (g.F.Folders.state c.args.store.now) (g.K.Sink.state c.args.output.now)) (world_of (g.F.Folders.state c.answer_row.new.store) (g.K.Sink.state c.answer_row.new.output)) (record { view = c.answer_row.new.view; journal = c.args.self.now.journal }) c.answer_row.result c.said-in-Ok-Other.result c.said-in-Ok-Other.ensures
    (none_made saving.said (asked_of c.args.self.now.view (Ok c.args.row.now)) (ap (λ (a : Answer). is_script a.said) (sym asks.alike) ∙ asks.quiet))
    c.requires.ready c.answer_row.ensures.does c.answer_row.ensures.view refl c.answer_row.ensures.no_read c.answer_row.ensures.blames)

pub returns-in-Err-clause-acts : goal.returns-in-Err-clause-acts
returns-in-Err-clause-acts g c = lacked g.D.Disk.state g.D.Disk.left_since c.args.self.now (by_row syncing_view c.args.self.now.view c.args.row.now) (made_by (by_row syncing_view c.args.self.now.view c.args.row.now).said (asked_of c.args.self.now.view (Ok c.args.row.now))) c.args.disk.now (world_of (g.F.Folders.state c.args.store.now) (g.K.Sink.state c.args.output.now)) c.args.self.now
