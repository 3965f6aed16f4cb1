use Rattle.std.proofs.Common.{◌<◌, length, arith}
use Rattle.feed_core.proofs.PackedLemmas.{one_unpacked}
use Rattle.feed_core.proofs.packed_reading.unpack_row.Goals as goal

pub loop-rest-preserved : goal.loop-rest-preserved
loop-rest-preserved c =
    let some : 0 < length c.loop-rest.rest.now = grind arith in
    one_unpacked _ _ c.loop-rest.rest.now c.split_text.result.1.now _ _ some c.split_text.ensures.first c.split_text.ensures.behind (rw c.in_ok-of.ensures at c.in_ok-push.ensures.items) c.loop-rest.invariant
