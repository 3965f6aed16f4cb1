use Rattle.std.proofs.Common.{◌≡◌, ◌∙◌}
use Rattle.view_folder.specs.TableFiles.{table_files}
use Rattle.view_folder.proofs.OpeningLemmas.{does_same}
use Rattle.view_folder.proofs.opening.sync_all.Goals as goal

pub returns-clause-does : goal.returns-clause-does
returns-clause-does g c =
    let files : c.deref.result.now ≡ table_files c.args.shape.now (g.T.TableTexts.tables c.args.tables.now) = c.deref.ensures.value ∙ c.in_ok-files.ensures.files in
    λ o t told. does_same _ _ _ _ t _ _ _ c.in_ok-folder.ensures files (c.sync_files.ensures.does o t told)

pub returns-clause-holds : goal.returns-clause-holds
returns-clause-holds g c =
    let files : c.deref.result.now ≡ table_files c.args.shape.now (g.T.TableTexts.tables c.args.tables.now) = c.deref.ensures.value ∙ c.in_ok-files.ensures.files in
    rw (c.in_ok-folder.ensures, files) at c.sync_files.ensures.holds
