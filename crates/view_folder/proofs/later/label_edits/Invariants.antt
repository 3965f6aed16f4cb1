use Rattle.std.proofs.Common.{◌≡◌, take, map}
use Rattle.view_folder.specs.Sync.{label_edit}
use Rattle.view_folder.proofs.later.label_edits.Given as goal

abbrev pub invariant-loop-label : goal.invariant-loop-label
invariant-loop-label g l = l.edits.items ≡ map (label_edit l.folder l.shape (g.T.TableTexts.tables l.tables)) (take l.label-index l.labels)
