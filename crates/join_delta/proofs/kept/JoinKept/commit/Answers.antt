use Rattle.std.proofs.Common.{sym, ◌∙◌}
use Rattle.join_delta.proofs.kept.JoinKept.commit.Goals as goal

pub move_side-requires-clause-ready : goal.move_side-requires-clause-ready
move_side-requires-clause-ready c = (c.self.invariant.ready c.in-Some.waiting (sym c.take.ensures.value ∙ c.in-Some.is)).left_count

pub move_side-requires-clause-fits : goal.move_side-requires-clause-fits
move_side-requires-clause-fits c =
    let r = c.self.invariant.ready c.in-Some.waiting (sym c.take.ensures.value ∙ c.in-Some.is) in
    (c.in-Some.waiting.of.value.0, r.left_waits, r.left_downs_are, r.left_fits)

pub move_side-requires-in-Some-clause-ready : goal.move_side-requires-in-Some-clause-ready
move_side-requires-in-Some-clause-ready c = (c.self.invariant.ready c.in-Some.waiting (sym c.take.ensures.value ∙ c.in-Some.is)).right_count

pub move_side-requires-in-Some-clause-fits : goal.move_side-requires-in-Some-clause-fits
move_side-requires-in-Some-clause-fits c =
    let r = c.self.invariant.ready c.in-Some.waiting (sym c.take.ensures.value ∙ c.in-Some.is) in
    (c.in-Some.waiting.of.value.1, r.right_waits, r.right_downs_are, r.right_fits)
