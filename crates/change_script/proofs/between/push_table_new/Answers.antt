use Rattle.flow_law.proofs.TableLemmas.{empty_in_order}
use Rattle.change_script.proofs.between.push_table_new.Goals as goal

pub of_columns-empty-requires : goal.of_columns-empty-requires
of_columns-empty-requires c = rw c.new.ensures.items empty_in_order.columns
