use Rattle.std.proofs.Common.{◌≡◌, ◌++◌, take, drop}
use Rattle.view_folder.specs.Records.{before_spot, behind_spot, dynamic_count}
use Rattle.view_folder.proofs.records.constant_part.Given as goal

abbrev pub invariant-loop-text : goal.invariant-loop-text
invariant-loop-text l = l.texts.items ≡ before_spot l.fn.shape l.fn.row ++ take l.text-index (drop (dynamic_count l.fn.shape l.fn.row) (behind_spot l.fn.shape l.fn.row))
