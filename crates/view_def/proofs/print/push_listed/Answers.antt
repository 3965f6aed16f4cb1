use Rattle.std.proofs.Common.{codes, arith}
use Rattle.view_def.proofs.PrintLemmas.{joined_more}
use Rattle.view_def.proofs.print.push_listed.Goals as goal

pub loop-place-preserved : goal.loop-place-preserved
loop-place-preserved g c =
    let step = joined_more g.P.Printed.text (codes ", ") _ _ c.args.parts.now c.loop-place.place c.index-parts-place.result c.loop-place.invariant (omega arith) c.index-parts-place.is in
    let before = c.in_ok-push_between.ensures in
    let here = c.in_ok-push_to.ensures in
    cc
