use Rattle.std.proofs.Common.{◌≡◌, Some}
use Rattle.std.specs.Vec.Iter.{into_iter_items}
use Rattle.outside.specs.Tree.{Tree}
use Rattle.outside.specs.Reading.{OnlyRead}
use Rattle.view_folder.specs.Comparison.{compared}
use Rattle.view_folder.proofs.comparison.first_difference.Given as goal

abbrev pub invariant-loop-name : goal.invariant-loop-name
invariant-loop-name g l =
    let state = g.F.Folders.state in
    record {
      told : (t : Tree) → (state l.fn.store).tree ≡ Some t → compared l.folder l.files t l.fn.names.items ≡ compared l.folder l.files t (into_iter_items l.name-iterator);
      only : OnlyRead (state l.fn.store) (state l.store);
    }
