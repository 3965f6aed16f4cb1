-- Combinations that hold a flat row that comes from a changed row.
use Rattle.std.specs.Prelude.{ℕ, ◌+◌, suc, Bool, false, ◌||◌, not, cond, List, [], ◌∷◌, ◌++◌, length, map, filter, flat_map, fold, take, zip}
use Rattle.std.specs.List.{range_with_len}
use Rattle.ss_text.specs.Texts.{Text}
use Rattle.plan_law.specs.Kinds.{Term, Range}
use Rattle.plan_law.specs.Kinds.range
use Rattle.view_def.specs.Query.{Query}
use Rattle.schema_delta.specs.declared.spec.FlatSpec.{FlatSpec}
use Rattle.plan_law.specs.Columns.{Column, Combo, header, spec_of, is_tested}
use Rattle.operator_law.specs.Bags.{weigh}

-- texts or columns, and whether a marked flat row is among them
abbrev pub Marked : Type 0 → Type 0
Marked A = List A × Bool

-- each followed by each, where the test of both passes; a mark stays
abbrev pub marked_pairs : {A : Type 0} → (List A → List A → Bool) → List (Marked A) → List (Marked A) → List (Marked A)
marked_pairs {A} t xs ys = flat_map (λ (x : Marked A). map (λ (y : Marked A). (x.0 ++ y.0, x.1 || y.1)) (filter (λ (y : Marked A). t x.0 y.0) ys)) xs

-- the cells of all, and of those without a mark
abbrev pub all_cells : {A : Type 0} → List (Marked A) → List (List A)
all_cells {A} xs = map (λ (x : Marked A). x.0) xs

abbrev pub plain_cells : {A : Type 0} → List (Marked A) → List (List A)
plain_cells {A} xs = map (λ (x : Marked A). x.0) (filter (λ (x : Marked A). not x.1) xs)

-- how many are marked
abbrev pub count_marked : {A : Type 0} → List (Marked A) → ℕ
count_marked {A} xs = weigh (λ (x : Marked A). cond x.1 1 0) xs

-- the equalities whose terms are there hold
abbrev pub both_tested : Query → Combo → Combo → Bool
both_tested q x y = is_tested q (x ++ y)

-- the partial combinations of so many base declarations
abbrev pub marked_combos : Query → List (List (Marked Column)) → ℕ → List (Marked Column)
marked_combos q yss k = fold (marked_pairs (both_tested q)) (([], false) ∷ []) (take k yss)

-- how many of them are marked, over all numbers of base declarations
abbrev pub touched : Query → List (List (Marked Column)) → ℕ
touched q yss = weigh (λ k. count_marked (marked_combos q yss k)) (range_with_len 0 (length yss + 1))

-- how many flat rows are marked
abbrev pub flat_moved : List (List (Marked Column)) → ℕ
flat_moved yss = weigh count_marked yss

-- flat rows with their marks, under the terms that their cells stand for
abbrev pub under : List Term → List (Marked Text) → List (Marked Column)
under h rows = map (λ (r : Marked Text). (zip h r.0, r.1)) rows

-- those of the base declarations from place k on, where each declaration has its own
abbrev pub marked_bases : (FlatSpec → List (Marked Text)) → Query → ℕ → List Range → List (List (Marked Column))
marked_bases rows_of q k [] = []
marked_bases rows_of q k (range.Alias j a ∷ ds) = marked_bases rows_of q (suc k) ds
marked_bases rows_of q k (d ∷ ds) = under (header q k d) (rows_of (spec_of q k d)) ∷ marked_bases rows_of q (suc k) ds
