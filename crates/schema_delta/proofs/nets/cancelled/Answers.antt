use Rattle.schema_delta.proofs.Leftover.{left_same, left_net}
use Rattle.schema_delta.proofs.nets.cancelled.Goals as goal

pub returns-clause-same : goal.returns-clause-same
returns-clause-same c = rw (c.in_ok-both.ensures, c.in_ok-come.ensures, c.in_ok-go.ensures) (left_same c.args.moves.now c.in_ok-ups.ups.items c.in_ok-downs.downs.items c.in_ok-ups.ensures c.in_ok-downs.ensures)

pub returns-clause-net : goal.returns-clause-net
returns-clause-net c = rw (c.in_ok-both.ensures, c.in_ok-come.ensures, c.in_ok-go.ensures) (left_net c.args.moves.now c.in_ok-ups.ups.items c.in_ok-downs.downs.items c.in_ok-ups.ensures c.in_ok-downs.ensures)
