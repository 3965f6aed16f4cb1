use Rattle.plan_law.proofs.MarkedFlat.{unmarked, insert_plain, delete_plain}
use Rattle.plan_law.proofs.bounds.marks_are_of_the_row.Goals as goal

pub returns : goal.returns
returns c = record {
  all = λ g c s. unmarked g c s;
  insert = λ c db rel row s. insert_plain c db rel row s;
  delete = λ c db rel row s. delete_plain c db rel row s;
}
