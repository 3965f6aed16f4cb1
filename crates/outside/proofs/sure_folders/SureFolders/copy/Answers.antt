use Rattle.std.proofs.Common.{ℕ, List, sym, subst}
use Rattle.outside.specs.Tree.{Place, tree_of}
use Rattle.outside.specs.Whole.{IsWhole}
use Rattle.outside.proofs.sure_folders.SureFolders.copy.Goals as goal

pub invariant_of-result : goal.invariant_of-result
invariant_of-result c =
    subst (λ (fs : List (List ℕ)). IsWhole (tree_of fs c.in_ok-files.files.entries)) (sym c.in_ok-folders.ensures)
    (subst (λ (es : List (Place × List ℕ)). IsWhole (tree_of c.self.inside.folders.keys es)) (sym c.in_ok-files.ensures) c.self.invariant)
