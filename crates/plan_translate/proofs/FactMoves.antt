-- How moves of full rows move their fact rows, one after another.
use Rattle.std.proofs.Common.{◌≡◌, List, [], ◌∷◌, ◌++◌, Bool, true, false, cond, map, filter, length, suc, ◌≤◌, refl, ap, arith, Some, None}
use Rattle.std.specs.Prelude.{zip, if◌then◌else◌}
use Rattle.ss_text.specs.Texts.{Row}
use Rattle.view_def.specs.Query.{Query}
use Rattle.flow_law.specs.FactRows.{fact_row}
use Rattle.view_meaning.specs.Valuations.{counts}
use Rattle.view_meaning.specs.Meaning.{fact_of}
use Rattle.operator_law.specs.declared.delta.Signed.{Signed}
use Rattle.operator_law.specs.Bags.{signed}
use Rattle.plan_law.specs.Columns.{read}
use Rattle.plan_law.specs.PlanRows.{plan_header}
use Rattle.plan_law.specs.PlanMoves.{fact_moves}
use Rattle.plan_form.specs.Forms.{counted_fact}

module _ (q : Query) where
  abbrev row_counts : Signed → Bool
  row_counts m = counts q (read q (zip (plan_header q) m.row))

  abbrev fact_in : Row → Row
  fact_in row = fact_row (fact_of q (read q (zip (plan_header q) row)))

  pub moves_push : (ms : List Signed) (m : Signed) → fact_moves q (ms ++ m ∷ []) ≡ fact_moves q ms ++ fact_moves q (m ∷ [])
  moves_push [] m = refl
  moves_push (n ∷ ms) m = one (row_counts n) (moves_push ms m)
    where
      one : (b : Bool) → fact_moves q (ms ++ m ∷ []) ≡ fact_moves q ms ++ fact_moves q (m ∷ [])
          → map (λ (m : Signed). signed m.up (fact_in m.row)) (cond b (n ∷ filter row_counts (ms ++ m ∷ [])) (filter row_counts (ms ++ m ∷ [])))
          ≡ map (λ (m : Signed). signed m.up (fact_in m.row)) (cond b (n ∷ filter row_counts ms) (filter row_counts ms)) ++ fact_moves q (m ∷ [])
      one true e = ap (λ (l : List Signed). signed n.up (fact_in n.row) ∷ l) e
      one false e = e

  pub not_counted : (m : Signed) → counted_fact q m.row ≡ None → fact_moves q (m ∷ []) ≡ []
  not_counted m is = one (row_counts m) is
    where
      one : (b : Bool) → (if b then Some (fact_in m.row) else None) ≡ None → map (λ (m : Signed). signed m.up (fact_in m.row)) (cond b (m ∷ []) []) ≡ []
      one true is = absurd (cc is)
      one false is = refl

  pub is_counted : (m : Signed) (row : Row) → counted_fact q m.row ≡ Some row → fact_moves q (m ∷ []) ≡ signed m.up row ∷ []
  is_counted m row is = one (row_counts m) is
    where
      one : (b : Bool) → (if b then Some (fact_in m.row) else None) ≡ Some row → map (λ (m : Signed). signed m.up (fact_in m.row)) (cond b (m ∷ []) []) ≡ signed m.up row ∷ []
      one true is = let same : fact_in m.row ≡ row = cc is in ap (λ (r : Row). signed m.up r ∷ []) same
      one false is = absurd (cc is)

  -- no more than those that are given
  pub few_facts : (ms : List Signed) → length (fact_moves q ms) ≤ length ms
  few_facts [] = omega arith
  few_facts (m ∷ ms) = one (row_counts m) (few_facts ms)
    where
      one : (b : Bool) → length (fact_moves q ms) ≤ length ms → length (map (λ (m : Signed). signed m.up (fact_in m.row)) (cond b (m ∷ filter row_counts ms) (filter row_counts ms))) ≤ suc (length ms)
      one true le = omega (arith, le)
      one false le = omega (arith, le)
