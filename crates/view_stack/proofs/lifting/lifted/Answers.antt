use Rattle.view_stack.proofs.CodeLemmas.{all_lifted, lifted_well_formed}
use Rattle.view_stack.proofs.lifting.lifted.Goals as goal

pub returns-clause-well_formed : goal.returns-clause-well_formed
returns-clause-well_formed c = λ some.
    let below = c.args.below.now in
    let db = below.db.now in
    let constants = below.constants.now in
    let tables = below.tables.now.tables in
    let databases = c.args.catalogue.now.databases in
    lifted_well_formed db constants tables databases some c.args.lines.now c.loop-place.changes.items
    (all_lifted db constants tables databases c.args.lines.now c.loop-place.left c.loop-place.row c.loop-place.changes.items c.loop-place.place c.loop-place-test.false c.loop-place.invariant)
