-- Facts that are there equally often.
use Rattle.std.proofs.Common.{◌≡◌, ◌+◌, ◌∷◌, [], ℕ, Bool, List, Option, Some, None, true, false, cond, refl, sym, ◌∙◌, ap, subst, map, arith}
use Rattle.std.specs.Prelude.{◌||◌, nat_lt}
use Rattle.std.specs.List.{AllByRecursion, list_any}
use Rattle.std.specs.Ordering.{eq_by_cmp}
use Rattle.std.proofs.lemmas.Bool.{or_right}
use Rattle.ss_text.specs.Texts.{Text}
use Rattle.ss_text.proofs.KeyLemmas.{IsKeyOrder, equal_is, equal_itself}
use Rattle.ss_text.proofs.SetLemmas.{SameElements}
use Rattle.flow_law.specs.Facts.{Fact}
use Rattle.flow_law.specs.FactOrder.{fact_cmp, fact_total}
use Rattle.flow_law.specs.FactRows.{fact_row}
use Rattle.flow_law.specs.Labelled.{BearLabel}
use Rattle.flow_law.proofs.SameFacts.{fact_same}
use Rattle.fact_tables.specs.Counted.{EachAsOften}
use Rattle.operator_law.specs.Bags.{SameBag, weigh}
use Rattle.operator_law.proofs.Weights.{weigh-sum_by, weigh-map}

fact_order : IsKeyOrder fact_cmp (eq_by_cmp fact_cmp)
fact_order = record { total = fact_total; same = fact_same; ties = λ f g. refl }

any_weighs : (p : Fact → Bool) (fs : List Fact) → nat_lt 0 (weigh (λ (f : Fact). cond (p f) 1 0) fs) ≡ list_any p fs
any_weighs p [] = refl
any_weighs p (f ∷ fs) = by_test (p f) (weigh (λ (g : Fact). cond (p g) 1 0) fs) (any_weighs p fs)
  where
    by_test : (b : Bool) (n : ℕ) → nat_lt 0 n ≡ list_any p fs → nat_lt 0 (cond b 1 0 + n) ≡ (b || list_any p fs)
    by_test true n rest = grind arith
    by_test false n rest =
        let none : cond false 1 0 + n ≡ n = omega arith in
        ap (nat_lt 0) none ∙ rest

-- what holds of each fact holds of one that is among them
among : (P : Fact → Type 0) (fs : List Fact) → AllByRecursion P fs → (f : Fact) → list_any (eq_by_cmp fact_cmp f) fs ≡ true → P f
among P [] h f any = absurd (cc)
among P (g ∷ fs) h f any = by_test (eq_by_cmp fact_cmp f g) refl any (λ here. among P fs h.1 f here)
  where
    by_test : (b : Bool) → eq_by_cmp fact_cmp f g ≡ b → (b || list_any (eq_by_cmp fact_cmp f) fs) ≡ true → (list_any (eq_by_cmp fact_cmp f) fs ≡ true → P f) → P f
    by_test true e here behind = subst P (sym (equal_is fact_order f g e)) h.0
    by_test false e here behind = behind here

module _ (fs gs : List Fact) (often : EachAsOften fs gs) where
  pub same_bag : SameBag fs gs
  same_bag = λ w. weigh-sum_by w fs ∙ often w ∙ sym (weigh-sum_by w gs)

  pub same_rows : SameBag (map fact_row fs) (map fact_row gs)
  same_rows = λ w. weigh-map w fact_row fs ∙ same_bag (λ (f : Fact). w (fact_row f)) ∙ sym (weigh-map w fact_row gs)

  pub same_elements : SameElements fs gs
  same_elements = record { same = λ p. sym (any_weighs p fs) ∙ ap (nat_lt 0) (same_bag (λ (f : Fact). cond (p f) 1 0)) ∙ any_weighs p gs }

  pub each_holds : (P : Fact → Type 0) → AllByRecursion P fs → AllByRecursion P gs
  each_holds P h = of_some gs (λ p any. any)
    where
      of_some : (hs : List Fact) → ((p : Fact → Bool) → list_any p hs ≡ true → list_any p gs ≡ true) → AllByRecursion P hs
      of_some [] sub = tt
      of_some (f ∷ hs) sub =
          let here : list_any (eq_by_cmp fact_cmp f) (f ∷ hs) ≡ true = ap (λ (b : Bool). b || list_any (eq_by_cmp fact_cmp f) hs) (equal_itself fact_order f) in
          (among P fs h f (same_elements.same (eq_by_cmp fact_cmp f) ∙ sub (eq_by_cmp fact_cmp f) here), of_some hs (λ p any. sub p (or_right (p f) (list_any p hs) any)))

  pub bear_same : (o : Option Text) → BearLabel o fs → BearLabel o gs
  bear_same None h = tt
  bear_same (Some label) h = each_holds (λ (f : Fact). f.label ≡ label) h
