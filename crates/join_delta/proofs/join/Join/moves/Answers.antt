use Rattle.std.proofs.Common.{◌≡◌, ◌≤◌, ◌+◌, ℕ, List, ap, ◌∙◌, subst}
use Rattle.operator_law.specs.declared.delta.Signed.{Signed}
use Rattle.operator_law.specs.Bags.{SameBag}
use Rattle.join_delta.specs.Joined.{matches, joined_moves, pairs_right, pairs_left}
use Rattle.join_delta.specs.Joins.{JoinValue}
use Rattle.join_delta.specs.Walks.{rows_of}
use Rattle.join_delta.proofs.join.Join.moves.Goals as goal

pub returns-in_err-delta-clause-cost : goal.returns-in_err-delta-clause-cost
returns-in_err-delta-clause-cost g c =
    let j = c.args.self.now in
    let lk : c.as_slice.result.now ≡ j.left_key = c.as_slice.ensures ∙ ap (λ (v : JoinValue). v.left_key) c.self.view_is in
    let rk : c.as_slice-2.result.now ≡ j.right_key = c.as_slice-2.ensures ∙ ap (λ (v : JoinValue). v.right_key) c.self.view_is in
    let xs : rows_of c.self.inside.left.live ≡ j.left = ap (λ (v : JoinValue). v.left) c.self.view_is in
    let ys : rows_of c.self.inside.right.live ≡ j.right = ap (λ (v : JoinValue). v.right) c.self.view_is in
    let ms : c.deref.result.now ≡ c.args.change.now.0 = c.deref.ensures.value ∙ ap (λ (v : List Signed × List Signed). v.0) c.change.view_is in
    let ns : c.deref-2.result.now ≡ c.args.change.now.1 = c.deref-2.ensures.value ∙ ap (λ (v : List Signed × List Signed). v.1) c.change.view_is in
    subst (λ (n : ℕ). c.pairs.new.steps ≤ n) (λ i. c.args.steps.now + pairs_right (matches (lk i) (rk i)) (ys i) (ms i) + pairs_left (matches (lk i) (rk i)) (xs i) (ns i)) c.pairs.ensures.cost

pub returns-clause-cost : goal.returns-clause-cost
returns-clause-cost g c =
    let j = c.args.self.now in
    let lk : c.as_slice.result.now ≡ j.left_key = c.as_slice.ensures ∙ ap (λ (v : JoinValue). v.left_key) c.self.view_is in
    let rk : c.as_slice-2.result.now ≡ j.right_key = c.as_slice-2.ensures ∙ ap (λ (v : JoinValue). v.right_key) c.self.view_is in
    let xs : rows_of c.self.inside.left.live ≡ j.left = ap (λ (v : JoinValue). v.left) c.self.view_is in
    let ys : rows_of c.self.inside.right.live ≡ j.right = ap (λ (v : JoinValue). v.right) c.self.view_is in
    let ms : c.deref.result.now ≡ c.args.change.now.0 = c.deref.ensures.value ∙ ap (λ (v : List Signed × List Signed). v.0) c.change.view_is in
    let ns : c.deref-2.result.now ≡ c.args.change.now.1 = c.deref-2.ensures.value ∙ ap (λ (v : List Signed × List Signed). v.1) c.change.view_is in
    subst (λ (n : ℕ). c.pairs.new.steps ≤ n) (λ i. c.args.steps.now + pairs_right (matches (lk i) (rk i)) (ys i) (ms i) + pairs_left (matches (lk i) (rk i)) (xs i) (ns i)) c.pairs.ensures.cost

pub returns-clause-moves : goal.returns-clause-moves
returns-clause-moves g c =
    let j = c.args.self.now in
    let lk : c.as_slice.result.now ≡ j.left_key = c.as_slice.ensures ∙ ap (λ (v : JoinValue). v.left_key) c.self.view_is in
    let rk : c.as_slice-2.result.now ≡ j.right_key = c.as_slice-2.ensures ∙ ap (λ (v : JoinValue). v.right_key) c.self.view_is in
    let xs : rows_of c.self.inside.left.live ≡ j.left = ap (λ (v : JoinValue). v.left) c.self.view_is in
    let ys : rows_of c.self.inside.right.live ≡ j.right = ap (λ (v : JoinValue). v.right) c.self.view_is in
    let ms : c.deref.result.now ≡ c.args.change.now.0 = c.deref.ensures.value ∙ ap (λ (v : List Signed × List Signed). v.0) c.change.view_is in
    let ns : c.deref-2.result.now ≡ c.args.change.now.1 = c.deref-2.ensures.value ∙ ap (λ (v : List Signed × List Signed). v.1) c.change.view_is in
    subst (λ (all : List Signed). SameBag c.in_ok-delta.delta all) (λ i. joined_moves (matches (lk i) (rk i)) (xs i) (ys i) (ms i) (ns i)) c.in_ok-delta.ensures.moves
