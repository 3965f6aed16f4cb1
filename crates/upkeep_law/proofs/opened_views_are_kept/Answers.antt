use Rattle.upkeep_law.proofs.MaintainedLemmas.{did_maintain, did_cut_off}
use Rattle.upkeep_law.proofs.KeptLemmas.{script_takes}
use Rattle.upkeep_law.proofs.UpheldLemmas.{answers_upheld}
use Rattle.upkeep_law.proofs.opened_views_are_kept.Goals as goal

pub returns-clause-answers : goal.returns-clause-answers
returns-clause-answers c = λ saves t q sources c answers old new start are told did. answers_upheld saves t q sources c answers old new start are told did

pub returns-clause-done : goal.returns-clause-done
returns-clause-done c = λ name t d bytes rest old new s did done. did_maintain name t bytes d rest old new s did.0 did.1 did.2 done did.3

pub returns-clause-cut_off : goal.returns-clause-cut_off
returns-clause-cut_off c = λ name t d bytes rest old new s did gave. did_cut_off name t bytes d rest old new s did.0 did.1 did.2 gave did.3

pub returns-clause-takes : goal.returns-clause-takes
returns-clause-takes c = λ s later. script_takes s later
