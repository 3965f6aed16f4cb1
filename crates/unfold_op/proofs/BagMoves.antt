-- What moves a bag of rows moves their facts.
use Rattle.std.proofs.Common.{◌≡◌, ℕ, suc, ◌+◌, ◌∷◌, [], List, Bool, true, false, cond, refl, sym, ◌∙◌, ap, length, arith}
use Rattle.std.specs.Prelude.{◌&&◌, not, count_by}
use Rattle.std.proofs.lemmas.List.Sums.{sum_by-cons}
use Rattle.ss_text.specs.Texts.{Row}
use Rattle.flow_law.specs.declared.shape.Shape.{Shape}
use Rattle.flow_law.specs.Facts.{Fact}
use Rattle.flow_law.specs.FactRows.{fact_in}
use Rattle.operator_law.specs.declared.delta.Signed.{Signed}
use Rattle.operator_law.specs.Bags.{weigh, come, go, MovesBag}
use Rattle.unfold_op.specs.Moves.{come_by, go_by, MovesFacts}
use Rattle.unfold_op.specs.FactMoves.{facts_in, fact_move, fact_moves}
use Rattle.unfold_op.specs.TableFields.{ups, downs}

both_up : (u b : Bool) → ◌≡◌ {A = ℕ} (cond (u && b) 1 0) (cond u (cond b 1 0) 0)
both_up true b = refl
both_up false b = refl

both_down : (u b : Bool) → ◌≡◌ {A = ℕ} (cond (not u && b) 1 0) (cond u 0 (cond b 1 0))
both_down true b = refl
both_down false b = refl

module _ (shape : Shape) (p : Fact → Bool) where
  abbrev passing : Row → ℕ
  passing row = cond (p (fact_in shape row)) 1 0

  facts_weigh : (rows : List Row) → count_by p (facts_in shape rows) ≡ weigh passing rows
  facts_weigh [] = refl
  facts_weigh (row ∷ rows) = sum_by-cons _ (fact_in shape row) (facts_in shape rows) ∙ ap (λ n. passing row + n) (facts_weigh rows)

  ups_weigh : (ms : List Signed) → come_by p (fact_moves shape ms) ≡ come passing ms
  ups_weigh [] = refl
  ups_weigh (m ∷ ms) =
      sum_by-cons _ (fact_move shape m) (fact_moves shape ms)
      ∙ ap (λ n. n + come_by p (fact_moves shape ms)) (both_up m.up (p (fact_in shape m.row)))
      ∙ ap (λ n. cond m.up (passing m.row) 0 + n) (ups_weigh ms)

  downs_weigh : (ms : List Signed) → go_by p (fact_moves shape ms) ≡ go passing ms
  downs_weigh [] = refl
  downs_weigh (m ∷ ms) =
      sum_by-cons _ (fact_move shape m) (fact_moves shape ms)
      ∙ ap (λ n. n + go_by p (fact_moves shape ms)) (both_down m.up (p (fact_in shape m.row)))
      ∙ ap (λ n. cond m.up 0 (passing m.row) + n) (downs_weigh ms)

  counts_move : (old new : List Row) (ms : List Signed) → MovesBag old ms new
      → count_by p (facts_in shape old) + come_by p (fact_moves shape ms) ≡ count_by p (facts_in shape new) + go_by p (fact_moves shape ms)
  counts_move old new ms h = rw (facts_weigh old, facts_weigh new, ups_weigh ms, downs_weigh ms) (h passing)

pub facts_move : (shape : Shape) (old new : List Row) (ms : List Signed) → MovesBag old ms new → MovesFacts (facts_in shape old) (fact_moves shape ms) (facts_in shape new)
facts_move shape old new ms h = record { counts = λ p. counts_move shape p old new ms h }

-- how many rows there are
one : Row → ℕ
one row = 1

all_weigh : (rows : List Row) → weigh one rows ≡ length rows
unfolding one
all_weigh [] = refl
all_weigh (row ∷ rows) = omega (arith, all_weigh rows)

all_ups : (ms : List Signed) → come one ms ≡ ups ms
unfolding one
all_ups [] = refl
all_ups (m ∷ ms) = ap (λ n. cond m.up 1 0 + n) (all_ups ms) ∙ sym (sum_by-cons _ m ms)

all_downs : (ms : List Signed) → go one ms ≡ downs ms
unfolding one
all_downs [] = refl
all_downs (m ∷ ms) = ap (λ n. cond m.up 0 1 + n) (all_downs ms) ∙ ap (λ n. n + downs ms) (turned m.up) ∙ sym (sum_by-cons _ m ms)
  where
    turned : (b : Bool) → ◌≡◌ {A = ℕ} (cond b 0 1) (cond (not b) 1 0)
    turned true = refl
    turned false = refl

pub totals_move : (old new : List Row) (ms : List Signed) → MovesBag old ms new → length old + ups ms ≡ length new + downs ms
totals_move old new ms h = omega (arith, h one, all_weigh old, all_weigh new, all_ups ms, all_downs ms)

pub facts_length : (shape : Shape) (rows : List Row) → length (facts_in shape rows) ≡ length rows
facts_length shape [] = refl
facts_length shape (row ∷ rows) = ap (λ n. suc n) (facts_length shape rows)
