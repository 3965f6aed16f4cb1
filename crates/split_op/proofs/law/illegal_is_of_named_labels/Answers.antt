use Rattle.split_op.proofs.LabelIllegal.{column_of_named, table_of_named}
use Rattle.split_op.proofs.law.illegal_is_of_named_labels.Goals as goal

pub returns-clause-tables : goal.returns-clause-tables
returns-clause-tables c = table_of_named

pub returns-clause-columns : goal.returns-clause-columns
returns-clause-columns c = column_of_named
