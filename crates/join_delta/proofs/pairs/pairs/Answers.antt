use Rattle.std.proofs.Common.{◌≤◌, ◌+◌, ℕ, List, length, subst, arith}
use Rattle.std.specs.List.{sum_by}
use Rattle.join_delta.specs.Walks.{rows_of}
use Rattle.join_delta.specs.Joined.{matches, pairs_right}
use Rattle.join_delta.specs.Partners.{beside}
use Rattle.join_delta.proofs.Sides.{left_cost, first_key, moves_are}
use Rattle.join_delta.proofs.pairs.pairs.Goals as goal

pub returns-in_err-add_all_kept-clause-cost : goal.returns-in_err-add_all_kept-clause-cost
returns-in_err-add_all_kept-clause-cost g c =
    let rk = first_key c.args.right.now.keys c.args.second.key.now c.requires.right in
    let right : c.add_all_kept.new.steps ≤ c.args.steps.now + pairs_right (matches c.args.first.key.now c.args.second.key.now) (rows_of c.args.right.now.live) c.args.first.moves.now =
    subst (λ (k : List ℕ). c.add_all_kept.new.steps ≤ c.args.steps.now + sum_by (λ m. length (beside k c.args.first.key.now (rows_of c.args.right.now.live) m)) c.args.first.moves.now) rk c.add_all_kept.ensures.cost in
    omega (arith, right)

pub returns-in_err-add_all_kept-2-clause-cost : goal.returns-in_err-add_all_kept-2-clause-cost
returns-in_err-add_all_kept-2-clause-cost g c =
    let rk = first_key c.args.right.now.keys c.args.second.key.now c.requires.right in
    let right : c.add_all_kept.new.steps ≤ c.args.steps.now + pairs_right (matches c.args.first.key.now c.args.second.key.now) (rows_of c.args.right.now.live) c.args.first.moves.now =
    subst (λ (k : List ℕ). c.add_all_kept.new.steps ≤ c.args.steps.now + sum_by (λ m. length (beside k c.args.first.key.now (rows_of c.args.right.now.live) m)) c.args.first.moves.now) rk c.add_all_kept.ensures.cost in
    let lk = first_key c.args.left.now.keys c.args.first.key.now c.requires.left in
    let left : c.add_all_kept-2.new.steps ≤ c.add_all_kept.new.steps + sum_by (λ m. length (beside c.args.first.key.now c.args.second.key.now (rows_of c.args.left.now.live) m)) c.args.second.moves.now =
    subst (λ (k : List ℕ). c.add_all_kept-2.new.steps ≤ c.add_all_kept.new.steps + sum_by (λ m. length (beside k c.args.second.key.now (rows_of c.args.left.now.live) m)) c.args.second.moves.now) lk c.add_all_kept-2.ensures.cost in
    omega (arith, right, left, left_cost c.args.first.key.now c.args.second.key.now (rows_of c.args.left.now.live) c.args.second.moves.now)

pub returns-in_err-add_products-clause-cost : goal.returns-in_err-add_products-clause-cost
returns-in_err-add_products-clause-cost g c =
    let rk = first_key c.args.right.now.keys c.args.second.key.now c.requires.right in
    let right : c.add_all_kept.new.steps ≤ c.args.steps.now + pairs_right (matches c.args.first.key.now c.args.second.key.now) (rows_of c.args.right.now.live) c.args.first.moves.now =
    subst (λ (k : List ℕ). c.add_all_kept.new.steps ≤ c.args.steps.now + sum_by (λ m. length (beside k c.args.first.key.now (rows_of c.args.right.now.live) m)) c.args.first.moves.now) rk c.add_all_kept.ensures.cost in
    let lk = first_key c.args.left.now.keys c.args.first.key.now c.requires.left in
    let left : c.add_all_kept-2.new.steps ≤ c.add_all_kept.new.steps + sum_by (λ m. length (beside c.args.first.key.now c.args.second.key.now (rows_of c.args.left.now.live) m)) c.args.second.moves.now =
    subst (λ (k : List ℕ). c.add_all_kept-2.new.steps ≤ c.add_all_kept.new.steps + sum_by (λ m. length (beside k c.args.second.key.now (rows_of c.args.left.now.live) m)) c.args.second.moves.now) lk c.add_all_kept-2.ensures.cost in
    omega (arith, right, left, left_cost c.args.first.key.now c.args.second.key.now (rows_of c.args.left.now.live) c.args.second.moves.now)

pub returns-clause-cost : goal.returns-clause-cost
returns-clause-cost g c =
    let rk = first_key c.args.right.now.keys c.args.second.key.now c.requires.right in
    let right : c.add_all_kept.new.steps ≤ c.args.steps.now + pairs_right (matches c.args.first.key.now c.args.second.key.now) (rows_of c.args.right.now.live) c.args.first.moves.now =
    subst (λ (k : List ℕ). c.add_all_kept.new.steps ≤ c.args.steps.now + sum_by (λ m. length (beside k c.args.first.key.now (rows_of c.args.right.now.live) m)) c.args.first.moves.now) rk c.add_all_kept.ensures.cost in
    let lk = first_key c.args.left.now.keys c.args.first.key.now c.requires.left in
    let left : c.add_all_kept-2.new.steps ≤ c.add_all_kept.new.steps + sum_by (λ m. length (beside c.args.first.key.now c.args.second.key.now (rows_of c.args.left.now.live) m)) c.args.second.moves.now =
    subst (λ (k : List ℕ). c.add_all_kept-2.new.steps ≤ c.add_all_kept.new.steps + sum_by (λ m. length (beside k c.args.second.key.now (rows_of c.args.left.now.live) m)) c.args.second.moves.now) lk c.add_all_kept-2.ensures.cost in
    omega (arith, right, left, left_cost c.args.first.key.now c.args.second.key.now (rows_of c.args.left.now.live) c.args.second.moves.now)

pub returns-clause-moves : goal.returns-clause-moves
returns-clause-moves g c =
    moves_are c.args.first.key.now c.args.second.key.now _ _ (rows_of c.args.left.now.live) (rows_of c.args.right.now.live) c.args.first.moves.now c.args.second.moves.now c.new-moves.result.items c.add_all_kept.new.out.items c.add_all_kept-2.new.out.items c.add_products.new.out.items
    (first_key c.args.left.now.keys c.args.first.key.now c.requires.left)
    (first_key c.args.right.now.keys c.args.second.key.now c.requires.right)
    c.new-moves.ensures.items c.in_ok-add_all_kept.ensures.pairs c.in_ok-add_all_kept-2.ensures.pairs c.in_ok-add_products.ensures
