use Rattle.std.proofs.Common.{◌≡◌, ℕ, List, [], ◌∷◌, ◌++◌, Option, Some, is_some, length, slice_index_or, sym, ap, ◌∙◌, subst, arith}
use Rattle.ss_text.specs.Texts.{Row}
use Rattle.operator_law.specs.declared.delta.Signed.{Signed}
use Rattle.row_links.specs.Live.{following}
use Rattle.join_delta.specs.Partners.{has_cells, paired}
use Rattle.join_delta.specs.Walks.{rest_from}
use Rattle.join_delta.proofs.Walk.{IsWalk, IsCounted, walk_begun, walk_left, walk_more, walk_ended, count_begun, count_more, count_within, beside_is}
use Rattle.join_delta.proofs.partners.add_kept.Goals as goal

pub loop-at-init : goal.loop-at-init
loop-at-init g c =
    let t = has_cells (slice_index_or c.args.kept.now.keys 0 []) c.args.positions.now c.args.m.now.row in (
      walk_begun t c.args.kept.now.live (paired c.args.kept_first c.args.m.now) c.args.out.now.items c.chain_like-at.result c.chain_like-at.ensures.once c.chain_like-at.ensures.found,
      count_begun t c.args.kept.now.live c.args.steps.now c.chain_like-at.result c.chain_like-at.ensures.once c.chain_like-at.ensures.found,
    )

pub row-requires : goal.row-requires
row-requires g c =
    let at = c.loop-at.invariant.0.walks c.in-Some.place c.in-Some.is in
    ap is_some at.there

pub returns-in_err-add_pair-clause-cost : goal.returns-in_err-add_pair-clause-cost
returns-in_err-add_pair-clause-cost g c = count_within _ _ _ _ _ c.loop-at.invariant.1

pub next-at-requires-clause-place : goal.next-at-requires-clause-place
next-at-requires-clause-place g c =
    let at = c.loop-at.invariant.0.walks c.in-Some.place c.in-Some.is in
    ap is_some at.there

pub loop-at-smaller : goal.loop-at-smaller
loop-at-smaller g c =
    let t = has_cells (slice_index_or c.args.kept.now.keys 0 []) c.args.positions.now c.args.m.now.row in
    let at = c.loop-at.invariant.0.walks c.in-Some.place c.in-Some.is in
    let next = c.next-at.ensures.next at.row at.there ∙ beside_is (slice_index_or c.args.kept.now.keys 0 []) c.args.positions.now c.args.m.now.row at.row (following c.in-Some.place c.args.kept.now.live) at.passes in
    let left = walk_left t c.args.kept.now.live c.in-Some.place at.row c.next-at.result c.loop-at.invariant.0.once at.there next in
    let was : rest_from t c.args.kept.now.live c.loop-at.at ≡ (c.in-Some.place, at.row) ∷ rest_from t c.args.kept.now.live c.next-at.result = ap (rest_from t c.args.kept.now.live) c.in-Some.is ∙ left in
    omega (arith, ap length was)

pub loop-at-preserved : goal.loop-at-preserved
loop-at-preserved g c =
    let t = has_cells (slice_index_or c.args.kept.now.keys 0 []) c.args.positions.now c.args.m.now.row in
    let f = paired c.args.kept_first c.args.m.now in
    let at = c.loop-at.invariant.0.walks c.in-Some.place c.in-Some.is in
    let next = c.next-at.ensures.next at.row at.there ∙ beside_is (slice_index_or c.args.kept.now.keys 0 []) c.args.positions.now c.args.m.now.row at.row (following c.in-Some.place c.args.kept.now.live) at.passes in
    let walk = subst (λ (o : Option ℕ). IsWalk t c.args.kept.now.live f c.args.out.now.items c.loop-at.out.items o) c.in-Some.is c.loop-at.invariant.0 in
    let counted = subst (λ (o : Option ℕ). IsCounted t c.args.kept.now.live c.args.steps.now c.loop-at.steps o) c.in-Some.is c.loop-at.invariant.1 in
    let row_is : at.row ≡ c.row.result.now = (let e : Some at.row ≡ Some c.row.result.now = sym at.there ∙ c.row.ensures in cc) in
    let out_is : c.loop-at.out.items ++ f at.row ∷ [] ≡ c.add_pair.new.out.items = ap (λ (r : Row). c.loop-at.out.items ++ f r ∷ []) row_is ∙ sym {A = List Signed} c.in_ok-add_pair.ensures in (
      walk_more t c.args.kept.now.live f c.args.out.now.items c.loop-at.out.items c.add_pair.new.out.items c.in-Some.place at.row c.next-at.result walk at.there next out_is,
      count_more t c.args.kept.now.live c.args.steps.now c.loop-at.steps _ c.in-Some.place at.row c.next-at.result counted c.loop-at.invariant.0.once at.there next c.next-at.ensures.step,
    )

pub returns-clause-pairs : goal.returns-clause-pairs
returns-clause-pairs g c =
    let t = has_cells (slice_index_or c.args.kept.now.keys 0 []) c.args.positions.now c.args.m.now.row in
    let f = paired c.args.kept_first c.args.m.now in
    walk_ended t c.args.kept.now.live f c.args.out.now.items c.loop-at.out.items
    (subst (λ (o : Option ℕ). IsWalk t c.args.kept.now.live f c.args.out.now.items c.loop-at.out.items o) c.in_default.is c.loop-at.invariant.0)

pub returns-clause-cost : goal.returns-clause-cost
returns-clause-cost g c = count_within _ _ _ _ _ c.loop-at.invariant.1
