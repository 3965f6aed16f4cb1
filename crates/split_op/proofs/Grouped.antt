-- One more move in the group of its label.
use Rattle.std.proofs.Common.{◌≡◌, ◌∷◌, ◌++◌, [], List, Bool, true, false, refl, sym, ◌∙◌, ap, map, take, length, ◌<◌, ◌+◌, ℕ, cond, get_or}
use Rattle.std.proofs.lemmas.List.{take_more}
use Rattle.std.specs.List.Sorted.{IsStrictlySortedBy}
use Rattle.ss_text.specs.Texts.{Text, text_eq, text_cmp}
use Rattle.ss_text.specs.Places.{changed_where}
use Rattle.ss_text.proofs.KeyLemmas.{text_order}
use Rattle.ss_text.proofs.PairLemmas.{turned, ascending_ascends}
use Rattle.operator_law.specs.declared.delta.Signed.{Signed}
use Rattle.split_op.specs.declared.groups.Group.{Group}
use Rattle.split_op.specs.Labels.{label_in, moves_of, labels_moved}
use Rattle.split_op.specs.Groups.{group_label, grouped, with_move}

moves_last : (label : Text) (ms : List Signed) (m : Signed) → moves_of label (ms ++ m ∷ []) ≡ (cond (text_eq label (label_in m.row)) (moves_of label ms ++ m ∷ []) (moves_of label ms))
moves_last label [] m = refl
moves_last label (n ∷ ms) m = by_test (text_eq label (label_in n.row)) (text_eq label (label_in m.row)) (moves_last label ms m)
  where
    by_test : (b d : Bool) → moves_of label (ms ++ m ∷ []) ≡ cond d (moves_of label ms ++ m ∷ []) (moves_of label ms)
        → cond b (n ∷ moves_of label (ms ++ m ∷ [])) (moves_of label (ms ++ m ∷ [])) ≡ cond d (cond b (n ∷ moves_of label ms) (moves_of label ms) ++ m ∷ []) (cond b (n ∷ moves_of label ms) (moves_of label ms))
    by_test true true e = ap (λ (ks : List Signed). n ∷ ks) e
    by_test true false e = ap (λ (ks : List Signed). n ∷ ks) e
    by_test false true e = e
    by_test false false e = e

one_more : (m : Signed) (ms : List Signed) (labels : List Text)
    → changed_where (λ (g : Group). text_eq (label_in m.row) g.label) (with_move m) (grouped ms labels) ≡ grouped (ms ++ m ∷ []) labels
one_more m ms [] = refl
one_more m ms (l ∷ ls) = rw (moves_last l ms m, turned text_order (label_in m.row) l) (by_test (text_eq l (label_in m.row)) (one_more m ms ls))
  where
    by_test : (b : Bool) → changed_where (λ (g : Group). text_eq (label_in m.row) g.label) (with_move m) (grouped ms ls) ≡ grouped (ms ++ m ∷ []) ls
        → ◌≡◌ {A = List Group} (cond b (with_move m (record { label = l; moves = moves_of l ms })) (record { label = l; moves = moves_of l ms }) ∷ changed_where (λ (g : Group). text_eq (label_in m.row) g.label) (with_move m) (grouped ms ls))
        (record { label = l; moves = cond b (moves_of l ms ++ m ∷ []) (moves_of l ms) } ∷ grouped (ms ++ m ∷ []) ls)
    by_test true e = ap (λ (gs : List Group). record { label = l; moves = moves_of l ms ++ m ∷ [] } ∷ gs) e
    by_test false e = ap (λ (gs : List Group). record { label = l; moves = moves_of l ms } ∷ gs) e

-- the next move of a list
pub next_move : (ms : List Signed) (labels : List Text) (k : ℕ) (m : Signed) → k < length ms → m ≡ get_or ms k m
    → changed_where (λ (g : Group). text_eq (label_in m.row) g.label) (with_move m) (grouped (take k ms) labels) ≡ grouped (take (k + 1) ms) labels
next_move ms labels k m lt at = one_more m (take k ms) labels ∙ ap (λ (ns : List Signed). grouped ns labels) (ap (λ (n : Signed). take k ms ++ n ∷ []) at ∙ sym (take_more ms k m lt))

-- groups stand in the order of their labels
pub groups_labels : (ms : List Signed) (labels : List Text) → map group_label (grouped ms labels) ≡ labels
groups_labels ms [] = refl
groups_labels ms (l ∷ ls) = ap (λ (ks : List Text). l ∷ ks) (groups_labels ms ls)

pub groups_ascend : (ms ns : List Signed) → IsStrictlySortedBy text_cmp (map group_label (grouped ms (labels_moved ns)))
groups_ascend ms ns = rw (groups_labels ms (labels_moved ns)) (ascending_ascends text_order (map (λ (m : Signed). label_in m.row) ns))
