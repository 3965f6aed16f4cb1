-- The walk over the declarations, where fewer folds are kept than stand before.
use Rattle.std.proofs.Common.{◌≡◌, ◌≢◌, ◌<◌, ◌≤◌, ◌+◌, arith, List, Some, None, ℕ, sym, ap, ◌∙◌, length, take, drop, get_or}
use Rattle.std.proofs.lemmas.List.{length-take-le}
use Rattle.view_def.specs.declared.written.RawDecl.{RawDecl}
use Rattle.var_typing.specs.declared.fault.TypeFault.{TypeFault}
use Rattle.var_typing.specs.declared.fault.TypeFault.TheVariants as fault
use Rattle.var_typing.specs.declared.folds.Fold.{Fold}
use Rattle.var_typing.specs.Declarations.{alias_folds, declaration_after, declaration_fault, declarations_fault}
use Rattle.var_typing.specs.Folds.{SameOthers}
use Rattle.var_typing.specs.Refusals.{in_turn}
use Rattle.var_typing.proofs.FoldLemmas.{declaration_same}
use Rattle.var_typing.proofs.WalkLemmas.{in_turn_passed, in_turn_refused}

module _ (ds before : List RawDecl) (i : ℕ) (d : RawDecl) (folds : List Fold) (lt : i < length ds) (at : d ≡ get_or ds i d) (those : before ≡ take i ds)
    (left : in_turn (declaration_fault ds) (take i ds) (drop i ds) ≡ declarations_fault ds) (taken : SameOthers (alias_folds ds (take i ds)) folds) where
  pub one_more : length before < 8 → i + 1 ≤ 8
  one_more h = let n = ap length those in let m = length-take-le i ds (omega arith) in omega arith

  here : declaration_fault ds (take i ds) d ≡ declaration_after ds folds before d
  here = declaration_same (alias_folds ds (take i ds)) folds taken ds (take i ds) d ∙ ap (λ (b : List RawDecl). declaration_after ds folds b d) (sym those)

  pub declaration_passed : declaration_after ds folds before d ≡ None → in_turn (declaration_fault ds) (take (i + 1) ds) (drop (i + 1) ds) ≡ declarations_fault ds
  declaration_passed h = in_turn_passed (declaration_fault ds) ds i d lt at (declarations_fault ds) left (here ∙ h)

  pub declaration_refused : (f : TypeFault) → (f ≢ fault.NoMemory → declaration_after ds folds before d ≡ Some f) → f ≢ fault.NoMemory → declarations_fault ds ≡ Some f
  declaration_refused f h n = in_turn_refused (declaration_fault ds) ds i d lt at (declarations_fault ds) left f (here ∙ h n)
