use Rattle.std.proofs.Common.{subst, List}
use Rattle.ss_text.specs.Texts.{Row, row_eq}
use Rattle.counts.specs.declared.moves.Move.{Move}
use Rattle.counts.specs.Counted.{IsNet}
use Rattle.other_operators.proofs.bag.net_of.Goals as goal

pub returns-clause-net : goal.returns-clause-net
returns-clause-net c =
    subst (λ (ms : List (Move Row)). IsNet row_eq ms c.in_ok-net.net) c.in_ok-keys.ensures c.in_ok-net.ensures.net
