use Rattle.std.proofs.Common.{◌≡◌, take, filter, not}
use Rattle.view_folder.specs.Sync.{has_table}
use Rattle.view_folder.proofs.later.those_gone.Given as goal

abbrev pub invariant-loop-label : goal.invariant-loop-label
invariant-loop-label g l = l.gone.items ≡ filter (λ label. not (has_table (g.T.TableTexts.tables l.tables) label)) (take l.label-index l.labels)
