use Rattle.std.proofs.Common.{◌++◌, [], filter, map, slice_index_or, arith}
use Rattle.ss_text.specs.Texts.{Row}
use Rattle.join_delta.specs.Joined.{matches}
use Rattle.join_delta.specs.Walks.{rows_of}
use Rattle.join_delta.proofs.Sides.{flat_more}
use Rattle.join_delta.proofs.filled.joined_rows.Goals as goal

pub loop-row-preserved : goal.loop-row-preserved
loop-row-preserved c =
    let t = matches c.args.positions.now (slice_index_or c.args.kept.now.keys 0 []) in
    flat_more (λ (x : Row). map (λ (y : Row). x ++ y) (filter (t x) (rows_of c.args.kept.now.live))) c.args.rows.now c.loop-row.row-index c.row-item.result [] c.loop-row.out.items c.add_beside.new.out.items (omega arith) c.row-item.is c.loop-row.invariant c.in_ok-add_beside.ensures
