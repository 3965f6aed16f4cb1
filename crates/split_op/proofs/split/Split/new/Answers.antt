use Rattle.std.proofs.Common.{ap}
use Rattle.split_op.specs.Splits.{part_of}
use Rattle.split_op.proofs.SplitKeeps.{none_kept}
use Rattle.split_op.proofs.split.Split.new.Goals as goal

pub returns-clause-keeps : goal.returns-clause-keeps
returns-clause-keeps g c = none_kept g.I.TableOperator.table c.args.shape (part_of c.with_hasher.result.entries) (λ label. ap (λ es. part_of es label) c.with_hasher.ensures.empty)
