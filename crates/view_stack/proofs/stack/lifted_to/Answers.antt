use Rattle.view_stack.proofs.StackLemmas.{lifts_then}
use Rattle.view_stack.proofs.stack.lifted_to.Goals as goal

pub returns-clause-lifts : goal.returns-clause-lifts
returns-clause-lifts g c = λ gs is.
    let state = g.A.Applies.state in
    let shape = c.shape-shape.ensures in
    lifts_then (state c.args.lower.now) (state c.args.upper.now) c.args.name.now gs c.args.lines.now shape.form shape.some shape.fits shape.order c.tables.ensures.verdict c.catalogue.ensures.sound c.requires
    (g.met.A.Applies.same_verdict c.args.upper.now) is
