-- The tree is whole before and after, so it is told.
use Rattle.std.proofs.Common.{ℕ, List, sym, subst}
use Rattle.outside.specs.Tree.{Place, tree_of}
use Rattle.outside.specs.Whole.{IsWhole}
use Rattle.outside.proofs.WholeLemmas.{told_seen, told_whole, whole_parts}
use Rattle.outside.proofs.sure_folders.SureFolders.put.Goals as goal

pub returns-in_err-folders-clause-tells : goal.returns-in_err-folders-clause-tells
returns-in_err-folders-clause-tells c = told_seen _ _ c.self.view_is c.self.invariant

pub returns-in_err-folders-clause-told_before : goal.returns-in_err-folders-clause-told_before
returns-in_err-folders-clause-told_before c = told_seen _ _ c.self.view_is c.self.invariant

pub returns-in_err-put-clause-told_before : goal.returns-in_err-put-clause-told_before
returns-in_err-put-clause-told_before c = told_seen _ _ c.self.view_is c.self.invariant

pub returns-clause-told_before : goal.returns-clause-told_before
returns-clause-told_before c = told_seen _ _ c.self.view_is c.self.invariant

pub invariant_of-self-2 : goal.invariant_of-self-2
invariant_of-self-2 c = whole_parts c.args.folder.now c.args.file.now c.args.bytes.now _ _ c.in_ok-folders.ensures c.in_ok-put.ensures.ok c.self.invariant

pub returns-clause-tells : goal.returns-clause-tells
returns-clause-tells c = told_whole _ (whole_parts c.args.folder.now c.args.file.now c.args.bytes.now _ _ c.in_ok-folders.ensures c.in_ok-put.ensures.ok c.self.invariant)

pub returns-in_err-put-clause-tells : goal.returns-in_err-put-clause-tells
returns-in_err-put-clause-tells c = told_whole _ (let fs = c.self.inside.folders.keys in subst (λ (es : List (Place × List ℕ)). IsWhole (tree_of fs es)) (sym c.in_err-put.ensures.err) c.self.invariant)
