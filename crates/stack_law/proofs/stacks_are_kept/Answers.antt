use Rattle.stack_law.proofs.StackedLemmas.{did_stack, did_stack_cut_off}
use Rattle.stack_law.proofs.stacks_are_kept.Goals as goal

pub returns-clause-done : goal.returns-clause-done
returns-clause-done c = λ names t ds bytes rest old new s did done. did_stack names t ds bytes rest old new s did done

pub returns-clause-cut_off : goal.returns-clause-cut_off
returns-clause-cut_off c = λ names t ds bytes rest old new s did gave. did_stack_cut_off names t ds bytes rest old new s did gave
