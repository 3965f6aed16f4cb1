-- The counts of rows before and after moves.
use Rattle.std.proofs.Common.{◌≡◌, ◌+◌, ◌≤◌, ◌∷◌, [], ℕ, zero, suc, Bool, true, false, cond, List, Option, Some, refl, sym, ◌∙◌, ap, map, length, arith}
use Rattle.std.specs.Prelude.{not, ◌&&◌, ◌||◌, nat_lt, unwrap_or}
use Rattle.std.specs.List.{list_any}
use Rattle.std.specs.Map.{lookup}
use Rattle.std.proofs.lemmas.Bool.{false≢true}
use Rattle.std.proofs.lemmas.List.Sums.{sum_by-cons}
use Rattle.indexmap.specs.IndexMap.{IndexMap, get}
use Rattle.ss_text.specs.Texts.{Row, row_eq, row_cmp}
use Rattle.ss_text.specs.Ascending.{ascending}
use Rattle.ss_text.proofs.KeyLemmas.{row_order, equal_is}
use Rattle.ss_text.proofs.PairLemmas.{turned, any_ascending}
use Rattle.counts.specs.declared.moves.Move.{Move}
use Rattle.counts.specs.declared.tally.Tally.{Tally}
use Rattle.counts.specs.Counted.{counted, keys_of, come as keys_come, go as keys_go, after, positive, new_counts, changed_get, IsNet, CanMove}
use Rattle.operator_law.specs.declared.delta.Signed.{Signed}
use Rattle.operator_law.specs.Bags.{weigh, come, go, is, MovesBag}
use Rattle.other_operators.specs.RowCounts.{row_move, row_moves, AreCountsOf, CanBeCounted, MovesRowCounts}

both_up : (u b : Bool) → ◌≡◌ {A = ℕ} (cond (u && b) 1 0) (cond u (cond b 1 0) 0)
both_up true b = refl
both_up false b = refl

both_down : (u b : Bool) → ◌≡◌ {A = ℕ} (cond (not u && b) 1 0) (cond u 0 (cond b 1 0))
both_down true b = refl
both_down false b = refl

-- how often a row comes and goes, as moves of keys and as signed rows
come_is : (q : Row) (ms : List Signed) → keys_come row_eq (row_moves ms) q ≡ come (is q) ms
come_is q [] = refl
come_is q (m ∷ ms) =
    sum_by-cons _ (row_move m) (row_moves ms)
    ∙ ap (λ n. n + keys_come row_eq (row_moves ms) q) (both_up m.up (row_eq q m.row))
    ∙ ap (λ n. cond m.up (is q m.row) 0 + n) (come_is q ms)

go_is : (q : Row) (ms : List Signed) → keys_go row_eq (row_moves ms) q ≡ go (is q) ms
go_is q [] = refl
go_is q (m ∷ ms) =
    sum_by-cons _ (row_move m) (row_moves ms)
    ∙ ap (λ n. n + keys_go row_eq (row_moves ms) q) (both_down m.up (row_eq q m.row))
    ∙ ap (λ n. cond m.up 0 (is q m.row) + n) (go_is q ms)

-- no row is there more often than there are rows
few_counted : (q : Row) (ys : List Row) → weigh (is q) ys ≤ length ys
few_counted q [] = omega arith
few_counted q (y ∷ ys) = elim (row_eq q y) as (λ b. cond b 1 0 + weigh (is q) ys ≤ length (y ∷ ys)) [
  | true ↦ omega (arith, few_counted q ys)
  | false ↦ omega (arith, few_counted q ys)
]

-- a row that the moves do not name neither comes nor goes
none_moves : (q : Row) (ms : List Signed) → list_any (row_eq q) (map (λ (m : Move Row). m.key) (row_moves ms)) ≡ false → (come (is q) ms ≡ 0) × (go (is q) ms ≡ 0)
none_moves q [] h = (refl, refl)
none_moves q (m ∷ ms) h = by_test (row_eq q m.row) refl (λ rest. none_moves q ms rest)
  where
    nothing : (u b : Bool) → b ≡ false → ◌≡◌ {A = ℕ} (cond u (cond b 1 0) 0) 0 × ◌≡◌ {A = ℕ} (cond u 0 (cond b 1 0)) 0
    nothing true b e = rw e (refl, refl)
    nothing false b e = rw e (refl, refl)

    by_test : (b : Bool) → row_eq q m.row ≡ b → (list_any (row_eq q) (map (λ (l : Move Row). l.key) (row_moves ms)) ≡ false → (come (is q) ms ≡ 0) × (go (is q) ms ≡ 0))
        → (come (is q) (m ∷ ms) ≡ 0) × (go (is q) (m ∷ ms) ≡ 0)
    by_test true e rest = absurd (false≢true (sym (rw e at h)))
    by_test false e rest =
        let r = rest (rw e at h) in
        let n = nothing m.up (row_eq q m.row) e in
        (omega (arith, r.0, n.0), omega (arith, r.1, n.1))

-- what moves come to
module _ (count : Row → ℕ) (ms : List Signed) (ts : List (Tally Row)) (net : IsNet row_eq (row_moves ms) ts) where
  pub can_move : CanBeCounted count ms → CanMove row_eq count ts
  can_move h = record {
    enough = λ q. omega (arith, h.counts q, h.moves (is q), net.come q, net.go q, come_is q ms, go_is q ms);
    small = λ q. omega (arith, h.counts q, h.moves (is q), net.come q, net.go q, come_is q ms, go_is q ms, h.few, few_counted q h.new);
  }

  after_is : (old new : List Row) → AreCountsOf count old → MovesBag old ms new → (q : Row) → after row_eq count ts q ≡ weigh (is q) new
  after_is old new h moves q = omega (arith, h q, moves (is q), net.come q, net.go q, come_is q ms, go_is q ms)

-- a map of some keys, over what was there
stored : {V : Type 0} (f : Row → Option V) (ks : List Row) (old : Row → Option V) (q : Row)
    → changed_get row_eq (map (λ k. let e : Row × Option V = (k, f k) in e) ks) old q ≡ cond (list_any (row_eq q) ks) (f q) (old q)
stored f [] old q = refl
stored {V = V} f (k ∷ ks) old q = by_test (row_eq k q) refl (stored f ks old q)
  where
    by_test : (b : Bool) → row_eq k q ≡ b → changed_get row_eq (map (λ k. let e : Row × Option V = (k, f k) in e) ks) old q ≡ cond (list_any (row_eq q) ks) (f q) (old q)
        → unwrap_or (cond (row_eq k q) (Some (f k)) (lookup (λ p. row_eq p q) (map (λ k. let e : Row × Option V = (k, f k) in e) ks))) (old q) ≡ cond (row_eq q k || list_any (row_eq q) ks) (f q) (old q)
    by_test true e rest = rw (turned row_order q k, e) (ap f (equal_is row_order k q e))
    by_test false e rest = rw (turned row_order q k, e) rest

some_more : (n : ℕ) → nat_lt 0 (suc n) ≡ true
some_more n = grind arith

positive_is : (n : ℕ) → unwrap_or (positive n) 0 ≡ n
positive_is zero = refl
positive_is (suc n) = rw (some_more n) refl

-- the new counts, stored over the old ones, are those of the rows after the moves
pub moved : {S : Type 0} (kept : IndexMap Row ℕ S) (ms : List Signed) (ts : List (Tally Row)) (ready : List (Row × Option ℕ)) → IsNet row_eq (row_moves ms) ts
    → keys_of ts ≡ ascending row_cmp (map (λ (m : Move Row). m.key) (row_moves ms)) → ready ≡ new_counts row_eq (counted row_eq kept) ts
    → MovesRowCounts (get row_eq kept) ms (changed_get row_eq ready (get row_eq kept))
moved kept ms ts ready net named_are ready_are old new h moves q =
    ap (λ (v : Option ℕ). unwrap_or v 0)
    (ap (λ (cs : List (Row × Option ℕ)). changed_get row_eq cs (get row_eq kept) q) ready_are
    ∙ stored (λ k. positive (after row_eq (counted row_eq kept) ts k)) (keys_of ts) (get row_eq kept) q)
    ∙ by_test (list_any (row_eq q) (keys_of ts)) refl
  where
    by_test : (b : Bool) → list_any (row_eq q) (keys_of ts) ≡ b → unwrap_or (cond b (positive (after row_eq (counted row_eq kept) ts q)) (get row_eq kept q)) 0 ≡ weigh (is q) new
    by_test true e = positive_is (after row_eq (counted row_eq kept) ts q) ∙ after_is (counted row_eq kept) ms ts net old new h moves q
    by_test false e =
        let none = none_moves q ms (sym (any_ascending row_order q (map (λ (m : Move Row). m.key) (row_moves ms))) ∙ ap (list_any (row_eq q)) (sym named_are) ∙ e) in
        omega (arith, h q, moves (is q), none.0, none.1)

-- the counts of a map that has the same entries
pub still_counted : {S : Type 0} (kept same : IndexMap Row ℕ S) (ms : List Signed) → ((q : Row) → get row_eq same q ≡ get row_eq kept q) → CanBeCounted (counted row_eq kept) ms → CanBeCounted (counted row_eq same) ms
still_counted kept same ms e h = record {
  old = h.old;
  new = h.new;
  counts = λ q. ap (λ (v : Option ℕ). unwrap_or v 0) (e q) ∙ h.counts q;
  moves = h.moves;
  few = h.few;
}
