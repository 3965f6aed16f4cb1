use Rattle.std.proofs.Common.{refl, subst, arith, IsSome}
use Rattle.feed_core.proofs.places.make_room.Goals as goal

pub returns-in_ok-reserve-in-Some-clause-room : goal.returns-in_ok-reserve-in-Some-clause-room
returns-in_ok-reserve-in-Some-clause-room c =
    let now = (c.get_mut.follows.holds c.reserve.new.self).3 (subst IsSome c.in-Some.ensures.value refl) in
    record {
      list = c.reserve.new.self;
      is = now.1;
      room = omega (arith, c.in_ok-reserve-in-Some.ensures.ok);
    }
