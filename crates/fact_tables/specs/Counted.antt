-- Facts in order beside those that come again, and how often each is there.
use Rattle.std.specs.Prelude.{ℕ, ◌≡◌, List, [], ◌∷◌, ◌++◌, cond}
use Rattle.std.specs.List.{sum_by}
use Rattle.std.specs.Ordering.{eq_by_cmp}
use Rattle.flow_law.specs.Facts.{Fact}
use Rattle.flow_law.specs.FactOrder.{fact_cmp}
use Rattle.flow_law.specs.Tables.{TablesValue}

-- the tables that facts give, each fact once, and again as often as it is repeated
pub record AllFactsValue : Type 0 where
  pub tables : TablesValue
  pub once : List Fact
  pub repeats : List Fact

abbrev pub each_fact : AllFactsValue → List Fact
each_fact a = a.once ++ a.repeats

-- both have each fact equally often
abbrev pub EachAsOften : List Fact → List Fact → Type 0
EachAsOften xs ys = (f : Fact → ℕ) → sum_by f xs ≡ sum_by f ys

-- those that equal the one before
abbrev pub repeats_in : List Fact → List Fact
repeats_in [] = []
repeats_in (f ∷ []) = []
repeats_in (f ∷ g ∷ fs) = cond (eq_by_cmp fact_cmp f g) (g ∷ repeats_in (g ∷ fs)) (repeats_in (g ∷ fs))
