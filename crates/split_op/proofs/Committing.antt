-- Stages that are moved one after another, the last first.
use Rattle.std.proofs.Common.{◌≡◌, ◌∷◌, ◌++◌, [], List, Option, true, false, Bool, refl, sym, ◌∙◌, ap, subst, map, append_assoc, append-nil, length, arith}
use Rattle.std.specs.Prelude.{◌||◌}
use Rattle.std.specs.List.{AllByRecursion, list_any}
use Rattle.std.specs.List.Sorted.{IsStrictlySortedBy}
use Rattle.ss_text.specs.Texts.{Text, text_eq, text_cmp}
use Rattle.ss_text.proofs.KeyLemmas.{text_order}
use Rattle.ss_text.proofs.PairLemmas.{turned, any_behind}
use Rattle.flow_law.specs.declared.shape.Shape.{Shape}
use Rattle.operator_law.specs.declared.delta.Signed.{Signed}
use Rattle.unfold_op.specs.OneTables.{OneTableValue}
use Rattle.split_op.specs.declared.stages.Stage.{Stage}
use Rattle.split_op.specs.Stages.{IsStage, MovesPart}
use Rattle.split_op.proofs.PartMoves.{stage_at, moves_from, moves_to}

-- the stages that are done, behind those that are left
pub record IsCommitted {I R : Type 0} (table : I → OneTableValue) (waiting : I → Option (List Signed)) (made_for : R → List Signed) (old now : Text → Option I) (stages left : List (Stage I R)) : Type 0 where
  pub done : List (Stage I R)
  pub all : stages ≡ left ++ done
  pub moved : (form : Shape) → AllByRecursion (IsStage table waiting made_for form old) stages → AllByRecursion (MovesPart table made_for form old now) done
  pub others : (q : Text) → list_any (λ (s : Stage I R). text_eq q s.label) done ≡ false → now q ≡ old q

pub either_false : (a b : Bool) → (a || b) ≡ false → (a ≡ false) × (b ≡ false)
either_false true b e = absurd (cc)
either_false false b e = (refl, e)

module _ {I R : Type 0} where
  abbrev labels : List (Stage I R) → List Text
  labels ss = map (λ (s : Stage I R). s.label) ss

  pub any_of_labels : (q : Text) (ss : List (Stage I R)) → list_any (λ (s : Stage I R). text_eq q s.label) ss ≡ list_any (text_eq q) (labels ss)
  any_of_labels q [] = refl
  any_of_labels q (s ∷ ss) = ap (λ (b : Bool). text_eq q s.label || b) (any_of_labels q ss)

  -- in ascending order no later stage bears the label
  alone : (left : List (Stage I R)) (s : Stage I R) (done : List (Stage I R)) → IsStrictlySortedBy text_cmp (labels (left ++ s ∷ done)) → list_any (λ (d : Stage I R). text_eq s.label d.label) done ≡ false
  unfolding IsStrictlySortedBy
  alone [] s done h = any_of_labels s.label done ∙ any_behind text_order s.label (labels done) h.0
  alone (l ∷ left) s done h = alone left s done h.1

  here : (P : Stage I R → Type 0) (left : List (Stage I R)) (s : Stage I R) (done : List (Stage I R)) → AllByRecursion P (left ++ s ∷ done) → P s
  here P [] s done h = h.0
  here P (l ∷ left) s done h = here P left s done h.1

  module _ (table : I → OneTableValue) (waiting : I → Option (List Signed)) (made_for : R → List Signed) (old now next : Text → Option I) (stages left : List (Stage I R)) (s : Stage I R) (ascend : IsStrictlySortedBy text_cmp (labels stages)) (h : IsCommitted table waiting made_for old now stages (left ++ s ∷ [])) where
    all_left : stages ≡ left ++ s ∷ h.done
    all_left = h.all ∙ append_assoc left (s ∷ []) h.done

    untouched : now s.label ≡ old s.label
    untouched = h.others s.label (alone left s h.done (subst (λ (ss : List (Stage I R)). IsStrictlySortedBy text_cmp (labels ss)) all_left ascend))

    -- the stage that is next is still as it was made ready
    pub next_stage : (form : Shape) → AllByRecursion (IsStage table waiting made_for form old) stages → IsStage table waiting made_for form now s
    next_stage form ready = stage_at table waiting made_for form old now s untouched (here (IsStage table waiting made_for form old) left s h.done (subst (AllByRecursion (IsStage table waiting made_for form old)) all_left ready))

    module _ (moved : (form : Shape) → IsStage table waiting made_for form now s → MovesPart table made_for form now next s) (others : (q : Text) → text_eq s.label q ≡ false → next q ≡ now q) where
      done_stay : (form : Shape) (ds : List (Stage I R)) → list_any (λ (d : Stage I R). text_eq s.label d.label) ds ≡ false → AllByRecursion (MovesPart table made_for form old now) ds → AllByRecursion (MovesPart table made_for form old next) ds
      done_stay form [] apart m = tt
      done_stay form (d ∷ ds) apart m =
          let each = either_false (text_eq s.label d.label) (list_any (λ (e : Stage I R). text_eq s.label e.label) ds) apart in
          (moves_to table waiting made_for form old now next d (others d.label each.0) m.0, done_stay form ds each.1 m.1)

      pub one_committed : IsCommitted table waiting made_for old next stages left
      one_committed = record {
        done = s ∷ h.done;
        all = all_left;
        moved = λ form ready. (
          moves_from table waiting made_for form now old next s (sym untouched) (moved form (next_stage form ready)),
          done_stay form h.done (alone left s h.done (subst (λ (ss : List (Stage I R)). IsStrictlySortedBy text_cmp (labels ss)) all_left ascend)) (h.moved form ready),
        );
        others = λ q apart.
            let each = either_false (text_eq q s.label) (list_any (λ (d : Stage I R). text_eq q d.label) h.done) apart in
            others q (turned text_order s.label q ∙ each.0) ∙ h.others q each.1;
      }

  pub none_committed : (table : I → OneTableValue) (waiting : I → Option (List Signed)) (made_for : R → List Signed) (old : Text → Option I) (stages : List (Stage I R)) → IsCommitted table waiting made_for old old stages stages
  none_committed table waiting made_for old stages = record { done = []; all = sym (append-nil stages); moved = λ form ready. tt; others = λ q apart. refl }

  -- in the end all are done
  pub all_moved : (table : I → OneTableValue) (waiting : I → Option (List Signed)) (made_for : R → List Signed) (old now : Text → Option I) (stages left : List (Stage I R)) → length left ≡ 0 → IsCommitted table waiting made_for old now stages left
      → (form : Shape) → AllByRecursion (IsStage table waiting made_for form old) stages → AllByRecursion (MovesPart table made_for form old now) stages
  all_moved table waiting made_for old now stages [] none h form ready = subst (AllByRecursion (MovesPart table made_for form old now)) (sym h.all) (h.moved form ready)
  all_moved table waiting made_for old now stages (s ∷ ss) none h form ready = absurd (omega (arith, none))
