-- The order of facts by the parts that the code compares.
use Rattle.std.proofs.Common.{◌≡◌, ◌+◌, ◌-◌, ◌<◌, ℕ, List, [], ◌∷◌, length, take, drop, Option, Some, true, refl, ap, subst, arith, ◌∙◌}
use Rattle.std.specs.Prelude.{slice_get}
use Rattle.std.specs.List.{prefix_len}
use Rattle.std.proofs.lemmas.List.{take_all}
use Rattle.std.proofs.lemmas.Cmp.{tied_itself}
use Rattle.ss_text.proofs.KeyLemmas.{row_order}
use Rattle.flow_law.specs.Facts.{Fact}
use Rattle.std.specs.declared.cmp.Ordering.{Ordering}
use Rattle.std.specs.declared.cmp.Ordering.TheVariants.{Less, Equal, Greater}
use Rattle.std.specs.Ordering.{ordering_then, is_eq}
use Rattle.ss_text.specs.Texts.{Text, Row, text_cmp, row_cmp, row_eq}
use Rattle.fact_tables.specs.Parts.{fact_value}
use Rattle.flow_law.specs.FactOrder.{cell_cmp, by_key as in_table, fact_cmp}

module _ (l m : Text) (j k : Row) (p q : Option (Text × Text)) (r : Ordering) where
  -- in a table, keys that are not the same decide
  pub by_key : r ≡ row_cmp j k → (r ≡ Equal → ⊥) → r ≡ in_table (fact_value l j p) (fact_value m k q)
  by_key e differs = e ∙ decided (row_cmp j k) _ (λ s. differs (e ∙ s))
    where
      decided : (o s : Ordering) → (o ≡ Equal → ⊥) → o ≡ ordering_then o s
      decided Less s d = refl
      decided Equal s d = absurd (d refl)
      decided Greater s d = refl

  -- and else the cells
  pub by_cell : row_cmp j k ≡ Equal → r ≡ cell_cmp p q → r ≡ in_table (fact_value l j p) (fact_value m k q)
  by_cell same e = rw same e

-- where the labels are the same, the order in their table decides
pub by_table : (f g : Fact) (r : Ordering) → text_cmp f.label g.label ≡ Equal → r ≡ in_table f g → r ≡ fact_cmp f g
by_table f g r same e = rw same e

-- a fact has its own key
pub first_counts : (first : Fact) (fs : List Fact) (n : ℕ) → Some first ≡ slice_get fs 0 → 0 < length fs → n ≡ prefix_len (λ (f : Fact). row_eq first.key f.key) (take (length fs - 1) (drop 1 fs))
    → 1 + n ≡ prefix_len (λ (f : Fact). row_eq first.key f.key) fs
first_counts first [] n is some counted = absurd (omega (arith, some))
first_counts first (f ∷ fs) n is some counted =
    let same : first ≡ f = cc in
    let itself : row_eq first.key first.key ≡ true = row_order.ties first.key first.key ∙ ap is_eq (tied_itself row_order.total first.key) in
    let equal : row_eq first.key f.key ≡ true = subst (λ (g : Fact). row_eq first.key g.key ≡ true) same itself in
    rw equal (ap (λ m. 1 + m) (counted ∙ ap (prefix_len (λ (g : Fact). row_eq first.key g.key)) (take_all (length (f ∷ fs) - 1) fs (omega arith))))
