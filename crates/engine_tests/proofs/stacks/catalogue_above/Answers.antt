use Rattle.std.proofs.Common.{sym, subst}
use Rattle.flow_law.specs.InOrder.{AreTables}
use Rattle.apply_law.specs.Standing.{tables_of}
use Rattle.engine_tests.proofs.stacks.catalogue_above.Goals as goal

pub catalogue_of-requires-clause-order : goal.catalogue_of-requires-clause-order
catalogue_of-requires-clause-order g c =
    let state = g.A.Applies.state c.args.level.now in
    subst AreTables (sym c.tables.ensures.tables) (c.shape.ensures.order state.catalogue (tables_of state) c.tables.ensures.verdict)
