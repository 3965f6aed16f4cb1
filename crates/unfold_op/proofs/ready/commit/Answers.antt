use Rattle.std.proofs.Common.{◌∙◌}
use Rattle.unfold_op.proofs.Prepared.{clash_is}
use Rattle.unfold_op.proofs.StoredLemmas.{stands_after}
use Rattle.unfold_op.proofs.ready.commit.Goals as goal

pub returns : goal.returns
returns c = λ n label constants ms old new h clean ready.
    stands_after c.args.counts.now n label constants ms old new h (clash_is c.args.counts.now n label constants ms old new h ∙ clean) c.args.ready ready (record { keys = c.store_all.new.map; columns = c.store_all-2.new.map; cells = c.store_all-3.new.map }) c.store_all.ensures c.store_all-2.ensures c.store_all-3.ensures
