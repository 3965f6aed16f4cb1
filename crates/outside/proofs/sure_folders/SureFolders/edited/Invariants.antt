use Rattle.std.proofs.Common.{◌≡◌, drop}
use Rattle.outside.specs.Edits.{all_edited}
use Rattle.outside.proofs.sure_folders.SureFolders.edited.Given as goal

-- the edits that are left make of these folders what all make of those at first
abbrev pub invariant-loop-edit : goal.invariant-loop-edit
invariant-loop-edit l = all_edited (drop l.edit-index l.edits) l.next ≡ all_edited l.edits l.self
