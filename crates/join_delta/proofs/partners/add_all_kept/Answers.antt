use Rattle.std.proofs.Common.{[], length, slice_index_or, arith}
use Rattle.operator_law.specs.declared.delta.Signed.{Signed}
use Rattle.join_delta.specs.Walks.{rows_of}
use Rattle.join_delta.specs.Partners.{beside, pairs_of}
use Rattle.join_delta.proofs.Sides.{flat_more, cost_more, cost_within}
use Rattle.join_delta.proofs.partners.add_all_kept.Goals as goal

pub returns-in_err-add_kept-clause-cost : goal.returns-in_err-add_kept-clause-cost
returns-in_err-add_kept-clause-cost g c =
    cost_within (λ (m : Signed). length (beside (slice_index_or c.args.kept.now.keys 0 []) c.args.positions.now (rows_of c.args.kept.now.live) m)) c.args.moves.now c.loop-m.m-index c.m-item.result c.args.steps.now c.loop-m.steps c.add_kept.new.steps (omega arith) c.m-item.is c.loop-m.invariant.1 c.add_kept.ensures.cost

pub loop-m-preserved : goal.loop-m-preserved
loop-m-preserved g c = (
  flat_more (pairs_of c.args.kept_first (slice_index_or c.args.kept.now.keys 0 []) c.args.positions.now (rows_of c.args.kept.now.live)) c.args.moves.now c.loop-m.m-index c.m-item.result c.args.out.now.items c.loop-m.out.items c.add_kept.new.out.items (omega arith) c.m-item.is c.loop-m.invariant.0 c.in_ok-add_kept.ensures.pairs,
  cost_more (λ (m : Signed). length (beside (slice_index_or c.args.kept.now.keys 0 []) c.args.positions.now (rows_of c.args.kept.now.live) m)) c.args.moves.now c.loop-m.m-index c.m-item.result c.args.steps.now c.loop-m.steps c.add_kept.new.steps (omega arith) c.m-item.is c.loop-m.invariant.1 c.add_kept.ensures.cost,
  omega (arith, c.loop-m.invariant.2, c.add_kept.ensures.rises),
)
