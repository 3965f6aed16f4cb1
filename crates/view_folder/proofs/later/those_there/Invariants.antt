use Rattle.std.proofs.Common.{◌≡◌, take, filter}
use Rattle.view_folder.specs.Sync.{has_table}
use Rattle.view_folder.proofs.later.those_there.Given as goal

abbrev pub invariant-loop-label : goal.invariant-loop-label
invariant-loop-label g l = l.there.items ≡ filter (has_table (g.T.TableTexts.tables l.tables)) (take l.label-index l.labels)
