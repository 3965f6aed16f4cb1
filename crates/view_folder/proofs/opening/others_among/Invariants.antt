use Rattle.std.proofs.Common.{◌≡◌, ◌++◌}
use Rattle.std.specs.Vec.Iter.{into_iter_items}
use Rattle.view_folder.specs.Files.{other_names}
use Rattle.view_folder.proofs.opening.others_among.Given as goal

abbrev pub invariant-loop-name : goal.invariant-loop-name
invariant-loop-name l = l.others.items ++ other_names l.files (into_iter_items l.name-iterator) ≡ other_names l.files l.fn.names.items
