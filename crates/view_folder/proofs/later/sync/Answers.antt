use Rattle.std.proofs.Common.{◌≡◌, ◌∙◌}
use Rattle.outside.specs.Performing.{Performs}
use Rattle.view_folder.specs.Files.{view_folder}
use Rattle.view_folder.specs.Sync.{later_sync, tables_first}
use Rattle.view_folder.proofs.LaterLemmas.{named_hold, ordered_performs, ordered_counted}
use Rattle.view_folder.proofs.later.sync.Goals as goal

pub returns-clause-performs : goal.returns-clause-performs
returns-clause-performs g c =
    let ts = g.T.TableTexts.tables c.args.tables.now in
    let are : c.deref.result.now ≡ tables_first ts c.args.labels.now = c.deref.ensures.value ∙ c.in_ok-ordered.ensures in
    ordered_performs (view_folder c.args.view_db.now) c.in_ok-folder.folder c.args.shape.now ts c.args.labels.now c.deref.result.now c.in_ok-folder.ensures are _ _ _ c.sync_labels.ensures.performs

pub returns-clause-holds : goal.returns-clause-holds
returns-clause-holds g c =
    let ts = g.T.TableTexts.tables c.args.tables.now in
    let are : c.deref.result.now ≡ tables_first ts c.args.labels.now = c.deref.ensures.value ∙ c.in_ok-ordered.ensures in
    let did : Performs (later_sync (view_folder c.args.view_db.now) c.args.shape.now ts c.args.labels.now) (g.F.Folders.state c.args.store.now) (g.F.Folders.state c.sync_labels.new.store) c.sync_labels.result =
    ordered_performs (view_folder c.args.view_db.now) c.in_ok-folder.folder c.args.shape.now ts c.args.labels.now c.deref.result.now c.in_ok-folder.ensures are _ _ _ c.sync_labels.ensures.performs in
    named_hold (view_folder c.args.view_db.now) c.args.shape.now ts c.args.labels.now (g.F.Folders.state c.args.store.now) (g.F.Folders.state c.sync_labels.new.store) c.sync_labels.result did.does

pub returns-clause-count : goal.returns-clause-count
returns-clause-count g c =
    let ts = g.T.TableTexts.tables c.args.tables.now in
    let are : c.deref.result.now ≡ tables_first ts c.args.labels.now = c.deref.ensures.value ∙ c.in_ok-ordered.ensures in
    ordered_counted (view_folder c.args.view_db.now) c.in_ok-folder.folder c.args.shape.now ts c.args.labels.now c.deref.result.now c.in_ok-folder.ensures are (g.F.Folders.state c.args.store.now).tree c.sync_labels.result c.sync_labels.ensures.count
