-- What facts in order say of the tables and the refusal of the same facts in any order.
use Rattle.std.proofs.Common.{◌≡◌, ◌+◌, arith, get_or, List, [], ◌∷◌, ◌++◌, Option, Some, None, refl, sym, ap, subst, ◌∙◌}
use Rattle.std.specs.Prelude.{option_map}
use Rattle.std.specs.declared.cmp.Ordering.{Ordering}
use Rattle.std.specs.declared.cmp.Ordering.TheVariants.{Less, Equal, Greater}
use Rattle.std.specs.Ordering.{eq_by_cmp, is_lt, ordering_reverse}
use Rattle.std.specs.Cmp.{IsTotalOrder, on_total, then_total}
use Rattle.std.specs.Cmp.Lexicographic.{nat_list_cmp_total, lists_total}
use Rattle.std.specs.List.{All, AllByRecursion}
use Rattle.std.specs.List.Retain.{IsFiltered, DiffersFromLast}
use Rattle.std.specs.List.Sorted.{IsPermutation, IsSorted, IsStrictlySortedBy}
use Rattle.std.proofs.lemmas.List.Sorted.{IsPermutation-refl, All-permutation, list_any-IsPermutation}
use Rattle.std.proofs.lemmas.List.Elements.{All-from_recursion}
use Rattle.ss_text.specs.Texts.{Text}
use Rattle.ss_text.specs.Ascending.{ascending}
use Rattle.ss_text.proofs.AscendingLemmas.{sorted_once}
use Rattle.ss_text.proofs.GroupLemmas.{all_front, all_ascending, strict_front, strict_ascending}
use Rattle.ss_text.proofs.SetLemmas.{SameElements, ascending_of_same}
use Rattle.flow_law.specs.declared.shape.Shape.{Shape}
use Rattle.flow_law.specs.declared.refused.IllegalLabel.{IllegalLabel}
use Rattle.flow_law.specs.declared.refused.Clash.{Clash}
use Rattle.flow_law.specs.declared.refused.EvalFault.{EvalFault}
use Rattle.flow_law.specs.declared.refused.EvalFault.TheVariants.{Illegal, Conflict, NoMemory}
use Rattle.flow_law.specs.Facts.{Fact, illegal, conflict, first_refusal, refusal_by}
use Rattle.flow_law.specs.FactOrder.{cell_total, by_key, fact_cmp, fact_total}
use Rattle.flow_law.specs.FactTables.{tables}
use Rattle.flow_law.specs.Labelled.{AllBear, BearLabel}
use Rattle.flow_law.specs.Faults.{IsFaultOf}
use Rattle.flow_law.proofs.SameFacts.{fact_same, in_order, tables_same, conflict_same}
use Rattle.fact_tables.specs.Conflicts.{IsConflict}

-- sorted facts without repetitions are the facts once each
pub left_once : (sorted once : List Fact) → IsSorted fact_cmp sorted → IsFiltered (DiffersFromLast (eq_by_cmp fact_cmp)) [] sorted once → once ≡ ascending fact_cmp sorted
left_once sorted once s h = sorted_once fact_cmp fact_total fact_same (eq_by_cmp fact_cmp) (λ x y. refl) sorted sorted once (IsPermutation-refl sorted) s h

module _ (sorted once : List Fact) (order : once ≡ ascending fact_cmp sorted) where
  pub strict : IsStrictlySortedBy fact_cmp once
  strict = rw order (strict_ascending fact_total sorted)

  pub conflict_once : conflict once ≡ conflict sorted
  conflict_once = ap conflict order ∙ conflict_same (ascending fact_cmp sorted) sorted (in_order sorted)

bear_in_order : (o : Option Text) (fs : List Fact) → BearLabel o fs → BearLabel o (ascending fact_cmp fs)
bear_in_order None fs h = tt
bear_in_order (Some label) fs h = all_ascending fact_total (λ (f : Fact). f.label ≡ label) fs h

module _ (shape : Shape) (fs : List Fact) where
  pub label_refused : (label : IllegalLabel) → Some label ≡ illegal shape fs → refusal_by Illegal Conflict shape fs ≡ Some (Illegal label)
  unfolding refusal_by
  label_refused label e = rw (← e) refl

  module _ (sorted : List Fact) (same : IsPermutation fs sorted) where
    same_facts : SameElements sorted fs
    same_facts = record { same = λ p. sym (list_any-IsPermutation p fs sorted same) }

    -- where every label is legal
    module _ (legal : illegal shape fs ≡ None) where
      refusal_is : refusal_by Illegal Conflict shape fs ≡ option_map Conflict (conflict sorted)
      unfolding refusal_by
      refusal_is = rw legal (only_conflict (conflict fs)) ∙ ap (option_map Conflict) (sym (conflict_same sorted fs same_facts))
        where
          only_conflict : (o : Option Clash) → first_refusal Illegal Conflict None o ≡ option_map Conflict o
          only_conflict (Some clash) = refl
          only_conflict None = refl

      pub conflict_refused : (s : EvalFault) → IsConflict sorted s → IsFaultOf shape fs s
      conflict_refused NoMemory h = tt
      conflict_refused (Illegal label) h = refusal_is ∙ h
      conflict_refused (Conflict clash) h = refusal_is ∙ h

      pub not_refused : conflict sorted ≡ None → refusal_by Illegal Conflict shape fs ≡ None
      not_refused h = refusal_is ∙ ap (option_map Conflict) h

    -- and once each
    module _ (once : List Fact) (order : once ≡ ascending fact_cmp sorted) where
      order_is : once ≡ ascending fact_cmp fs
      order_is = order ∙ ascending_of_same fact_total fact_same sorted fs same_facts

      pub bear : BearLabel shape.label fs → BearLabel shape.label once
      bear h = rw order_is (bear_in_order shape.label fs h)

      pub tables_are : tables shape once ≡ tables shape fs
      tables_are = ap (tables shape) order_is ∙ tables_same (ascending fact_cmp fs) fs (in_order fs) shape

-- facts without the last one
pub strict_left : (all left : List Fact) (last : Fact) → all ≡ left ++ last ∷ [] → IsStrictlySortedBy fact_cmp all → IsStrictlySortedBy fact_cmp left
strict_left all left last is h = strict_front fact_cmp left (last ∷ []) (subst (IsStrictlySortedBy fact_cmp) is h)

pub bear_left : (label : Option Text) (all left : List Fact) (last : Fact) → all ≡ left ++ last ∷ [] → BearLabel label all → BearLabel label left
bear_left None all left last is h = tt
bear_left (Some label) all left last is h = all_front (λ (f : Fact). f.label ≡ label) left (last ∷ []) (subst (AllByRecursion (λ (f : Fact). f.label ≡ label)) is h)

self_equal : {K : Type 0} {R : K → K → Ordering} → IsTotalOrder R → (x : K) → R x x ≡ Equal
self_equal {K} {R} o x = by_case (R x x) (o.antisymm x x)
  where
    by_case : (r : Ordering) → r ≡ ordering_reverse r → r ≡ Equal
    by_case Less e = absurd (cc)
    by_case Equal e = refl
    by_case Greater e = absurd (cc)

-- facts of one table are in order by key and cell
pub in_table_total : IsTotalOrder by_key
in_table_total = then_total (on_total (λ (f : Fact). f.key) (lists_total nat_list_cmp_total)) (on_total (λ (f : Fact). f.cell) cell_total)

same_label : (label : Text) (f g : Fact) → f.label ≡ label → g.label ≡ label → fact_cmp f g ≡ by_key f g
same_label label f g d e = rw (d, e, self_equal nat_list_cmp_total label) refl

-- and so are facts that bear one label
pub sorted_in_table : (label : Text) (fs gs : List Fact) → AllBear label fs → IsPermutation fs gs → IsSorted by_key gs → IsSorted fact_cmp gs
sorted_in_table label fs gs bear same sorted =
    let each : All (λ (f : Fact). f.label ≡ label) gs = All-permutation (λ (f : Fact). f.label ≡ label) fs gs same (All-from_recursion (λ (f : Fact). f.label ≡ label) fs bear) in
    λ k d low high. ap is_lt (same_label label (get_or gs (k + 1) d) (get_or gs k d) (each (k + 1) d high) (each k d (omega arith))) ∙ sorted k d low high
