-- Operators that are made ready one after another.
use Rattle.std.proofs.Common.{◌≡◌, ◌<◌, ◌+◌, ◌∷◌, ◌++◌, [], ℕ, List, Option, false, refl, sym, ◌∙◌, ap, subst, map, take, drop, length, get_or, Less}
use Rattle.std.specs.List.{AllByRecursion, list_any}
use Rattle.std.specs.List.Sorted.{IsStrictlySortedBy}
use Rattle.std.proofs.lemmas.List.{take_more, take-append-drop, map-append}
use Rattle.ss_text.specs.Texts.{Text, text_eq, text_cmp}
use Rattle.ss_text.proofs.KeyLemmas.{text_order, less_differs}
use Rattle.ss_text.proofs.GroupLemmas.{strict_front}
use Rattle.ss_text.proofs.PlaceLemmas.{each_last, map_last}
use Rattle.operator_law.specs.declared.delta.Signed.{Signed}
use Rattle.flow_law.specs.declared.shape.Shape.{Shape}
use Rattle.unfold_op.specs.OneTables.{OneTableValue}
use Rattle.split_op.specs.declared.groups.Group.{Group}
use Rattle.split_op.specs.declared.stages.Stage.{Stage}
use Rattle.split_op.specs.Groups.{group_label}
use Rattle.split_op.specs.Stages.{IsStage, AreReady}
use Rattle.split_op.proofs.Committing.{either_false}
use Rattle.split_op.proofs.PartMoves.{stage_at}

earlier : (ks : List Text) (k : Text) → IsStrictlySortedBy text_cmp (ks ++ k ∷ []) → list_any (text_eq k) ks ≡ false
unfolding IsStrictlySortedBy
earlier [] k h = refl
earlier (j ∷ js) k h = rw (less_differs text_order j k (last js h.0)) (earlier js k h.1)
  where
    last : (is : List Text) → AllByRecursion (λ q. text_cmp j q ≡ Less) (is ++ k ∷ []) → text_cmp j k ≡ Less
    last [] a = a.0
    last (i ∷ is) a = last is a.1

taken : (groups : List Group) (n : ℕ) → IsStrictlySortedBy text_cmp (map group_label groups) → IsStrictlySortedBy text_cmp (map group_label (take n groups))
taken groups n h =
    strict_front text_cmp (map group_label (take n groups)) (map group_label (drop n groups))
    (subst (λ (ls : List Text). IsStrictlySortedBy text_cmp ls) (ap (map group_label) (sym (take-append-drop n groups)) ∙ map-append group_label (take n groups) (drop n groups)) h)

module _ {I R : Type 0} (table : I → OneTableValue) (waiting : I → Option (List Signed)) (made_for : R → List Signed) (form : Shape) (at now : Text → Option I) where
  still : (label : Text) → ((q : Text) → text_eq label q ≡ false → now q ≡ at q) → (ss : List (Stage I R)) → list_any (text_eq label) (map (λ (s : Stage I R). s.label) ss) ≡ false
      → AllByRecursion (IsStage table waiting made_for form at) ss → AllByRecursion (IsStage table waiting made_for form now) ss
  still label others [] apart h = tt
  still label others (s ∷ ss) apart h =
      let each = either_false (text_eq label s.label) (list_any (text_eq label) (map (λ (t : Stage I R). t.label) ss)) apart in
      (stage_at table waiting made_for form at now s (others s.label each.0) h.0, still label others ss each.1 h.1)

  pub one_more_ready : (groups : List Group) (k : ℕ) (g : Group) (stages : List (Stage I R)) (s : Stage I R) → k < length groups → g ≡ get_or groups k g → IsStrictlySortedBy text_cmp (map group_label groups)
      → ((q : Text) → text_eq g.label q ≡ false → now q ≡ at q) → AreReady table waiting made_for form at (take k groups) stages → IsStage table waiting made_for form now s → s.label ≡ g.label → made_for s.ready ≡ g.moves
      → AreReady table waiting made_for form now (take (k + 1) groups) (stages ++ s ∷ [])
  one_more_ready groups k g stages s lt is ascend others h stage label made =
      let more : take (k + 1) groups ≡ take k groups ++ g ∷ [] = take_more groups k g lt ∙ ap (λ (d : Group). take k groups ++ d ∷ []) (sym is) in
      let all : map group_label (take (k + 1) groups) ≡ map group_label (take k groups) ++ g.label ∷ [] = ap (map group_label) more ∙ map_last group_label (take k groups) g in
      let apart : list_any (text_eq g.label) (map (λ (t : Stage I R). t.label) stages) ≡ false =
      ap (list_any (text_eq g.label)) h.labels ∙ earlier (map group_label (take k groups)) g.label (subst (IsStrictlySortedBy text_cmp) all (taken groups (k + 1) ascend)) in
      record {
        each = each_last (IsStage table waiting made_for form now) stages s (still g.label others stages apart h.each) stage;
        labels = map_last (λ (t : Stage I R). t.label) stages s ∙ (λ i. h.labels i ++ label i ∷ []) ∙ sym all;
        made = map_last (λ (t : Stage I R). made_for t.ready) stages s ∙ (λ i. h.made i ++ made i ∷ []) ∙ sym (ap (map (λ (d : Group). d.moves)) more ∙ map_last (λ (d : Group). d.moves) (take k groups) g);
      }
