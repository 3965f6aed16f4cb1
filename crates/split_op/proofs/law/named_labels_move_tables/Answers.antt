use Rattle.split_op.proofs.NamedTables.{named_make, named_fit}
use Rattle.split_op.proofs.law.named_labels_move_tables.Goals as goal

pub returns-clause-makes : goal.returns-clause-makes
returns-clause-makes c = named_make

pub returns-clause-fits : goal.returns-clause-fits
returns-clause-fits c = named_fit
