use Rattle.std.proofs.Common.{sym, ◌∙◌}
use Rattle.row_links.specs.Live.{at_place}
use Rattle.row_links.proofs.Seen.{some_row}
use Rattle.row_links.proofs.Places.{passing_behind}
use Rattle.engine_tests.proofs.links.walk.Goals as goal

pub loop-preserved : goal.loop-preserved
loop-preserved g c = λ p e.
    let r = some_row (at_place c.in-Some.place c.args.linked.now.live) (c.loop.invariant c.in-Some.place c.in-Some.is) in
    passing_behind _ c.in-Some.place c.args.linked.now.live p (sym (c.next-next.ensures.next r.0 r.1) ∙ e)
