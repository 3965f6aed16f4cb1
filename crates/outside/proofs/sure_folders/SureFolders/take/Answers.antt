-- The tree is whole before and after, so it is told.
use Rattle.std.proofs.Common.{ℕ, List, refl, sym, subst}
use Rattle.outside.specs.Tree.{Place, tree_of, without_file}
use Rattle.outside.specs.Whole.{IsWhole}
use Rattle.outside.proofs.WholeLemmas.{told_seen, told_whole, whole_changed, same_parts, whole_without_file}
use Rattle.outside.proofs.sure_folders.SureFolders.take.Goals as goal

pub returns-in_err-was-clause-told_before : goal.returns-in_err-was-clause-told_before
returns-in_err-was-clause-told_before c = told_seen _ _ c.self.view_is c.self.invariant

pub returns-in_err-was-clause-tells : goal.returns-in_err-was-clause-tells
returns-in_err-was-clause-tells c = told_whole _ (let fs = c.self.inside.folders.keys in subst (λ (es : List (Place × List ℕ)). IsWhole (tree_of fs es)) (sym c.in_err-was.ensures.err) c.self.invariant)

pub invariant_of-self-2 : goal.invariant_of-self-2
invariant_of-self-2 c = whole_changed (without_file c.args.folder.now c.args.file.now) (whole_without_file c.args.folder.now c.args.file.now) _ _ c.self.invariant (same_parts _ _ refl c.in_ok-was.ensures.ok)

pub returns-clause-told_before : goal.returns-clause-told_before
returns-clause-told_before c = told_seen _ _ c.self.view_is c.self.invariant

pub returns-clause-tells : goal.returns-clause-tells
returns-clause-tells c = told_whole _ (whole_changed (without_file c.args.folder.now c.args.file.now) (whole_without_file c.args.folder.now c.args.file.now) _ _ c.self.invariant (same_parts _ _ refl c.in_ok-was.ensures.ok))
