-- The first element that passes a test, and what holds of one among many.
use Rattle.std.proofs.Common.{◌≡◌, ◌<◌, ◌+◌, ◌∷◌, [], ℕ, List, Bool, true, false, Option, Some, None, refl, sym, ◌∙◌, ap, subst, map, take, drop, length, get_or, ◌++◌, append_assoc, arith}
use Rattle.std.specs.List.{find}
use Rattle.std.proofs.lemmas.List.{take_more, take-append-drop, map-append}
use Rattle.ss_text.specs.Texts.{Text, Row}
use Rattle.ss_text.proofs.PlaceLemmas.{each_at, map_last}
use Rattle.operator_law.specs.Bags.{weigh}
use Rattle.operator_law.proofs.Weights.{weigh-push, weigh-append}
use Rattle.std.specs.Prelude.{if◌then◌else◌, ◌≤◌}
use Rattle.flow_law.specs.declared.shape.Shape.{Shape}
use Rattle.unfold_op.specs.OneTables.{OneTableValue}
use Rattle.split_op.specs.declared.groups.Group.{Group}
use Rattle.split_op.specs.Groups.{group_label}
use Rattle.split_op.specs.Labels.{rows_of}
use Rattle.split_op.specs.Parts.{FitsPart, FitsParts}

module _ (p : Text → Bool) where
  pub found_next : (ls : List Text) (l : Text) (ks : List Text) → find p ls ≡ None → p l ≡ true → find p (ls ++ l ∷ ks) ≡ Some l
  found_next [] l ks none here = rw here refl
  found_next (j ∷ js) l ks none here = by_test (p j) none (λ rest. found_next js l ks rest here)
    where
      by_test : (b : Bool) → (if b then Some j else find p js) ≡ None → (find p js ≡ None → find p (js ++ l ∷ ks) ≡ Some l) → (if b then Some j else find p (js ++ l ∷ ks)) ≡ Some l
      by_test true e more = absurd (cc)
      by_test false e more = more e

  pub none_next : (ls : List Text) (l : Text) → find p ls ≡ None → p l ≡ false → find p (ls ++ l ∷ []) ≡ None
  none_next [] l none here = rw here refl
  none_next (j ∷ js) l none here = by_test (p j) none (λ rest. none_next js l rest here)
    where
      by_test : (b : Bool) → (if b then Some j else find p js) ≡ None → (find p js ≡ None → find p (js ++ l ∷ []) ≡ None) → (if b then Some j else find p (js ++ l ∷ [])) ≡ None
      by_test true e more = absurd (cc)
      by_test false e more = more e

-- the labels of some groups and one more
pub labels_more : (groups : List Group) (k : ℕ) (g : Group) → k < length groups → g ≡ get_or groups k g → map group_label (take (k + 1) groups) ≡ map group_label (take k groups) ++ g.label ∷ []
labels_more groups k g lt is = ap (map group_label) (take_more groups k g lt ∙ ap (λ (d : Group). take k groups ++ d ∷ []) (sym is)) ∙ map_last group_label (take k groups) g

pub labels_split : (groups : List Group) (k : ℕ) (g : Group) → k < length groups → g ≡ get_or groups k g → map group_label groups ≡ map group_label (take k groups) ++ g.label ∷ map group_label (drop (k + 1) groups)
labels_split groups k g lt is =
    ap (map group_label) (sym (take-append-drop (k + 1) groups))
    ∙ map-append group_label (take (k + 1) groups) (drop (k + 1) groups)
    ∙ ap (λ (ls : List Text). ls ++ map group_label (drop (k + 1) groups)) (labels_more groups k g lt is)
    ∙ append_assoc (map group_label (take k groups)) (g.label ∷ []) (map group_label (drop (k + 1) groups))

-- what the groups so far weigh, and all
pub weigh_next : (f : Group → ℕ) (groups : List Group) (k : ℕ) (g : Group) → k < length groups → g ≡ get_or groups k g → weigh f (take (k + 1) groups) ≡ weigh f (take k groups) + f g
weigh_next f groups k g lt is = ap (weigh f) (take_more groups k g lt ∙ ap (λ (d : Group). take k groups ++ d ∷ []) (sym is)) ∙ weigh-push f (take k groups) g

pub weigh_within : (f : Group → ℕ) (groups : List Group) (k : ℕ) (g : Group) → k < length groups → g ≡ get_or groups k g → weigh f (take k groups) + f g ≤ weigh f groups
weigh_within f groups k g lt is =
    let all : weigh f groups ≡ weigh f (take (k + 1) groups) + weigh f (drop (k + 1) groups) = ap (weigh f) (sym (take-append-drop (k + 1) groups)) ∙ weigh-append f (take (k + 1) groups) (drop (k + 1) groups) in
    omega (arith, all, weigh_next f groups k g lt is)

-- one group's moves fit
pub fits_at : {I : Type 0} (table : I → OneTableValue) (shape : Shape) (pattern : I) (at : Text → Option I) (groups : List Group) (old new : List Row) (k : ℕ) (g : Group) → k < length groups → g ≡ get_or groups k g → FitsParts table shape pattern at groups old new
    → FitsPart table shape (at g.label) g (rows_of g.label old) (rows_of g.label new)
fits_at table shape pattern at groups old new k g lt is h =
    subst (λ (d : Group). FitsPart table shape (at d.label) d (rows_of d.label old) (rows_of d.label new)) (sym is)
    (each_at (λ (d : Group). FitsPart table shape (at d.label) d (rows_of d.label old) (rows_of d.label new)) groups k g lt h.fits)
