use Rattle.std.proofs.Common.{◌∷◌, ◌++◌, ◌∙◌, [], List, ap}
use Rattle.ss_text.specs.Texts.{Text}
use Rattle.view_folder.specs.declared.file.File.{File}
use Rattle.view_folder.specs.TableFiles.{table_file}
use Rattle.view_folder.proofs.KeptFileLemmas.{no_file, one_file}
use Rattle.view_folder.proofs.kept_file.push_file.Goals as goal

pub returns-in_default : goal.returns-in_default
returns-in_default c = no_file c.args.shape.now c.args.slot.now c.args.files.now.items c.in_default.ensures

pub returns : goal.returns
returns c =
    let shape = c.args.shape.now in
    let files = c.args.files.now.items in
    c.in_ok-push.ensures.items
    ∙ ap (λ (f : File). files ++ f ∷ []) (c.in_ok-file.ensures ∙ ap (λ (l : Text). table_file shape (l, c.in-Some.table.now.table)) c.label.ensures)
    ∙ ap (λ (fs : List File). files ++ fs) (one_file shape c.args.slot.now c.in-Some.table.now c.in-Some.ensures)
