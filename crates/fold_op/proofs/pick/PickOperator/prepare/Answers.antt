use Rattle.schema_model.specs.Placed.{placed_rows}
use Rattle.fold_op.specs.Sheets.{SheetValue}
use Rattle.fold_op.proofs.FlatLemmas.{pick_law}
use Rattle.fold_op.proofs.pick.PickOperator.prepare.Goals as goal

pub returns-clause-law : goal.returns-clause-law
returns-clause-law g c = λ x y hx hy.
    let sheet : SheetValue = (g.S.Sheet.attributes c.args.input.now, placed_rows (g.S.Sheet.placed c.args.input.now)) in
    rw (hy, hx, c.in_ok-delta.ensures.moves) (pick_law c.args.self.now.wanted sheet c.args.change.now c.in_ok-delta.ensures.sheet c.requires)
