-- The rows of relations, counted one relation after another.
use Rattle.std.proofs.Common.{◌≡◌, ◌<◌, ◌≤◌, ◌+◌, ◌∷◌, ◌∙◌, [], ℕ, List, refl, sym, ap, subst, zero, suc, length, map, drop, arith, slice_index_or}
use Rattle.std.specs.Prelude.{sum_by}
use Rattle.std.proofs.lemmas.List.Sums.{sum_by-cons}
use Rattle.schema_model.specs.Catalogue.{RelationValue}
use Rattle.schema_model.specs.States.{RelationState, plain_relation}

abbrev pub rows_of_all : List RelationState → ℕ
rows_of_all rs = sum_by (λ (r : RelationValue). length r.rows) (map plain_relation rs)

from_there : (rs : List RelationState) (i : ℕ) (r : RelationState) → i < length rs → r ≡ slice_index_or rs i r → rows_of_all (drop i rs) ≡ length (plain_relation r).rows + rows_of_all (drop (suc i) rs)
from_there [] i r lt is = absurd (omega (arith, lt))
from_there (x ∷ rs) zero r lt is = sum_by-cons (λ (s : RelationValue). length s.rows) (plain_relation x) (map plain_relation rs) ∙ ap (λ (s : RelationState). length (plain_relation s).rows + rows_of_all rs) (sym is)
from_there (x ∷ rs) (suc i) r lt is = from_there rs i r (omega (arith, lt)) is

pub rest_counted : (rs : List RelationState) (i : ℕ) (r : RelationState) → i < length rs → r ≡ slice_index_or rs i r → rows_of_all (drop i rs) ≡ length (plain_relation r).rows + rows_of_all (drop (i + 1) rs)
rest_counted rs i r lt is = subst (λ (j : ℕ). rows_of_all (drop i rs) ≡ length (plain_relation r).rows + rows_of_all (drop j rs)) (one_more i) (from_there rs i r lt is)
  where
    one_more : (n : ℕ) → suc n ≡ n + 1
    one_more n = omega arith

pub all_counted : (rs : List RelationState) (i : ℕ) → length rs ≤ i → rows_of_all (drop i rs) ≡ 0
all_counted [] zero h = refl
all_counted [] (suc i) h = refl
all_counted (x ∷ rs) zero h = absurd (omega (arith, h))
all_counted (x ∷ rs) (suc i) h = all_counted rs i (omega (arith, h))
