-- Lists of folds that refuse the same.
use Rattle.std.proofs.Common.{◌≡◌, ◌<◌, ◌+◌, ◌∷◌, ◌++◌, [], ℕ, Bool, true, false, List, Option, refl, sym, ap, ◌∙◌, arith, take, get_or, length, append-nil}
use Rattle.std.specs.Prelude.{◌||◌}
use Rattle.std.specs.List.{list_any}
use Rattle.std.proofs.lemmas.Bool.Decides.{nat_tests}
use Rattle.std.proofs.lemmas.List.{take_more}
use Rattle.std.proofs.lemmas.List.Concat.{flat_map-append}
use Rattle.std.proofs.lemmas.List.Folds.{list_any-append}
use Rattle.std.proofs.Math.Bool.{or-false, or-true}
use Rattle.ss_text.specs.Texts.{Text}
use Rattle.view_def.specs.declared.written.RawDecl.{RawDecl}
use Rattle.view_def.specs.declared.written.RawRange.{RawRange}
use Rattle.view_def.specs.declared.written.RawRange.TheVariants as raw
use Rattle.var_typing.specs.declared.fault.TypeFault.{TypeFault}
use Rattle.var_typing.specs.declared.fault.TypeFault.TheVariants.{TwoFolds}
use Rattle.var_typing.specs.declared.folds.Fold.{Fold}
use Rattle.var_typing.specs.Refusals.{◌or_else◌, where_true}
use Rattle.var_typing.specs.Scope.{tuple_fault, name_fault}
use Rattle.var_typing.specs.Folds.{is_other, is_same, has_other, two_folds, fold_of, SameOthers}
use Rattle.var_typing.specs.Declarations.{too_many, range_fault, declared_twice, range_folds, alias_folds, declaration_after}

same_is_other : (h f g : Fold) → is_same f g ≡ true → is_other h f ≡ true → is_other h g ≡ true
same_is_other h f g s o = grind (arith, nat_tests)

-- among these is one that is the same as f
others_too : (h f : Fold) (gs : List Fold) → list_any (is_same f) gs ≡ true → is_other h f ≡ true → list_any (is_other h) gs ≡ true
others_too h f [] s o = absurd (cc)
others_too h f (g ∷ gs) s o = by_first (is_same f g) refl s (λ r. others_too h f gs r o)
  where
    by_first : (b : Bool) → is_same f g ≡ b → (b || list_any (is_same f) gs) ≡ true → (list_any (is_same f) gs ≡ true → list_any (is_other h) gs ≡ true) → list_any (is_other h) (g ∷ gs) ≡ true
    by_first true e r later = ap (λ b. b || list_any (is_other h) gs) (same_is_other h f g e o)
    by_first false e r later = ap (λ b. is_other h g || b) (later r) ∙ or-true (is_other h g)

-- a fold that stands there already
pub same_others : (folds : List Fold) (f : Fold) → list_any (is_same f) folds ≡ true → SameOthers (folds ++ f ∷ []) folds
same_others folds f s h =
    list_any-append (is_other h) folds (f ∷ []) ∙ ap (λ b. list_any (is_other h) folds || b) (or-false (is_other h f))
    ∙ joined (list_any (is_other h) folds) (is_other h f) (others_too h f folds s)
  where
    joined : (a b : Bool) → (b ≡ true → a ≡ true) → (a || b) ≡ a
    joined true b i = refl
    joined false true i = absurd (cc (i refl))
    joined false false i = refl

-- more folds after these
pub same_append : (these those more after : List Fold) → SameOthers these those → SameOthers (those ++ more) after → SameOthers (these ++ more) after
same_append these those more after h k f =
    list_any-append (is_other f) these more ∙ ap (λ b. b || list_any (is_other f) more) (h f) ∙ sym (list_any-append (is_other f) those more) ∙ k f

-- the same is refused after the same folds
module _ (these those : List Fold) (same : SameOthers these those) where
  pub two_folds_same : (x : Text) (fs : List Fold) → two_folds these x fs ≡ two_folds those x fs
  two_folds_same x [] = refl
  two_folds_same x (f ∷ fs) = ap (λ b. where_true b (TwoFolds x)) (same f)

  pub range_fault_same : (ds : List RawDecl) (visible : ℕ) (r : RawRange) → range_fault ds visible these r ≡ range_fault ds visible those r
  range_fault_same ds visible raw.Databases = refl
  range_fault_same ds visible (raw.Relations db) = refl
  range_fault_same ds visible (raw.Attributes db rel) = refl
  range_fault_same ds visible (raw.Tuples db rel) = refl
  range_fault_same ds visible (raw.Values db rel a) = refl
  range_fault_same ds visible (raw.Alias x a) =
      ap (λ (f : Option TypeFault). tuple_fault ds visible x or_else name_fault ds visible a or_else f) (two_folds_same x (fold_of ds x a))

  pub declaration_same : (ds before : List RawDecl) (d : RawDecl) → declaration_after ds these before d ≡ declaration_after ds those before d
  declaration_same ds before d =
      ap (λ (f : Option TypeFault). too_many before d or_else f or_else declared_twice before d) (range_fault_same ds (length before) d.range)

-- one more declaration
pub alias_folds_more : (ds xs : List RawDecl) (i : ℕ) (x : RawDecl) (folds after : List Fold) → i < length xs → x ≡ get_or xs i x
    → SameOthers (alias_folds ds (take i xs)) folds → SameOthers (folds ++ range_folds ds x.range) after → SameOthers (alias_folds ds (take (i + 1) xs)) after
alias_folds_more ds xs i x folds after lt at h k f = ap (λ (l : List Fold). has_other l f) joined ∙ same_append (alias_folds ds (take i xs)) folds (range_folds ds x.range) after h k f
  where
    joined : alias_folds ds (take (i + 1) xs) ≡ alias_folds ds (take i xs) ++ range_folds ds x.range
    joined =
        ap (alias_folds ds) (take_more xs i x lt) ∙ flat_map-append (λ (d : RawDecl). range_folds ds d.range) (take i xs) (get_or xs i x ∷ [])
        ∙ ap (λ (l : List Fold). alias_folds ds (take i xs) ++ l) (append-nil (range_folds ds (get_or xs i x).range) ∙ ap (λ (d : RawDecl). range_folds ds d.range) (sym at))
