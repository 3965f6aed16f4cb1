use Rattle.ss_text.specs.Texts.{row_eq}
use Rattle.counts.specs.Counted.{counted}
use Rattle.other_operators.proofs.BagCounts.{can_move, moved, still_counted}
use Rattle.other_operators.proofs.bag.made_ready.Goals as goal

pub new_counts-requires : goal.new_counts-requires
new_counts-requires c =
    let ms = c.args.moves.now in
    let net = c.in_ok-net.net in
    can_move (counted row_eq c.make_room.new.map) ms net c.in_ok-net.ensures.net
    (still_counted c.args.counts.now c.make_room.new.map ms c.make_room.ensures.same c.requires)

pub returns-clause-ready : goal.returns-clause-ready
returns-clause-ready c =
    let net = c.in_ok-net.net in
    moved c.make_room.new.map c.args.moves.now net c.in_ok-ready.ready.items c.in_ok-net.ensures.net c.in_ok-net.ensures.keys c.in_ok-ready.ensures
