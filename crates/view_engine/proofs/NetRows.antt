-- Each row that moves in net is among the rows before or after.
use Rattle.std.proofs.Common.{◌≡◌, ◌≤◌, ◌+◌, ℕ, List, [], ◌∷◌, Bool, true, false, cond, refl, arith, sym, subst, ap}
use Rattle.std.specs.List.{AllByRecursion}
use Rattle.ss_text.specs.Texts.{Row, row_eq}
use Rattle.operator_law.specs.declared.delta.Signed.{Signed}
use Rattle.operator_law.specs.Bags.{weigh, come, go, is, MovesBag}
use Rattle.operator_law.proofs.Counts.{row_eq-Decides}
use Rattle.schema_delta.specs.Net.{IsNet}
use Rattle.plan_law.proofs.Net.{Tells}

-- what holds of each row of a list holds of a row that is counted in it
in_list : (P : Row → Type 0) (r : Row) (rows : List Row) → AllByRecursion P rows → 1 ≤ weigh (is r) rows → P r
in_list P r [] h some = absurd (omega arith)
in_list P r (x ∷ rows) h some = one (row_eq r x) refl (λ n. in_list P r rows h.1 n)
  where
    one : (b : Bool) → row_eq r x ≡ b → (1 ≤ weigh (is r) rows → P r) → P r
    one true e rest = subst P (sym ((row_eq-Decides r x).0 e)) h.0
    one false e rest = let none : is r x ≡ 0 = ap (λ b. cond b 1 0) e in rest (omega (arith, some, none))

-- a row that comes does not go, and one that goes does not come
module _ (test : Row → Bool) (r : Row) where
  none_go : (ms : List Signed) → Tells test ms → test r ≡ true → go (is r) ms ≡ 0
  none_go [] h e = refl
  none_go (m ∷ ms) h e = one m.up (row_eq r m.row) refl h.0 (none_go ms h.1 e)
    where
      one : (u b : Bool) → row_eq r m.row ≡ b → test m.row ≡ u → go (is r) ms ≡ 0 → cond u 0 (is r m.row) + go (is r) ms ≡ 0
      one true b s t rest = omega (arith, rest)
      one false false s t rest = let none : is r m.row ≡ 0 = ap (λ b. cond b 1 0) s in omega (arith, none, rest)
      one false true s t rest = let same : test r ≡ test m.row = ap test ((row_eq-Decides r m.row).0 s) in absurd (cc)

  none_come : (ms : List Signed) → Tells test ms → test r ≡ false → come (is r) ms ≡ 0
  none_come [] h e = refl
  none_come (m ∷ ms) h e = one m.up (row_eq r m.row) refl h.0 (none_come ms h.1 e)
    where
      one : (u b : Bool) → row_eq r m.row ≡ b → test m.row ≡ u → come (is r) ms ≡ 0 → cond u (is r m.row) 0 + come (is r) ms ≡ 0
      one false b s t rest = omega (arith, rest)
      one true false s t rest = let none : is r m.row ≡ 0 = ap (λ b. cond b 1 0) s in omega (arith, none, rest)
      one true true s t rest = let same : test r ≡ test m.row = ap test ((row_eq-Decides r m.row).0 s) in absurd (cc)

module _ (P : Row → Type 0) (old new : List Row) (ms : List Signed) (moves : MovesBag old ms new) (net : IsNet ms) (before : AllByRecursion P old) (after : AllByRecursion P new) where
  -- of some of the moves, which weigh no more than all
  each : (ns : List Signed) → Tells net.comes ns → ((f : Row → ℕ) → come f ns ≤ come f ms) → ((f : Row → ℕ) → go f ns ≤ go f ms) → AllByRecursion (λ (m : Signed). P m.row) ns
  each [] t comes goes = tt
  each (n ∷ ns) t comes goes =
      (one n.up t.0 (comes (is n.row)) (goes (is n.row)), each ns t.1 (λ f. omega (arith, comes f)) (λ f. omega (arith, goes f)))
    where
      itself : is n.row n.row ≡ 1
      itself = ap (λ b. cond b 1 0) ((row_eq-Decides n.row n.row).1 refl)

      one : (u : Bool) → net.comes n.row ≡ u → cond u (is n.row n.row) 0 + come (is n.row) ns ≤ come (is n.row) ms → cond u 0 (is n.row n.row) + go (is n.row) ns ≤ go (is n.row) ms → P n.row
      one true e c g = in_list P n.row new after (omega (arith, itself, c, none_go net.comes n.row ms net.tells e, moves (is n.row)))
      one false e c g = in_list P n.row old before (omega (arith, itself, g, none_come net.comes n.row ms net.tells e, moves (is n.row)))

  pub rows_moved : AllByRecursion (λ (m : Signed). P m.row) ms
  rows_moved = each ms net.tells (λ f. omega arith) (λ f. omega arith)
