use Rattle.std.proofs.Common.{◌∙◌, sym}
use Rattle.unfold_op.proofs.one_table.OneTable.fresh.Goals as goal

pub returns-clause-shape : goal.returns-clause-shape
returns-clause-shape c =
    c.new.ensures.shape ∙ λ i. record { label = sym c.requires.variable i; constants = c.in_ok-constants.ensures i; spot = c.args.self.now.shape.spot }
