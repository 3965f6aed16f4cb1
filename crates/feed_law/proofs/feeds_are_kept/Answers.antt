use Rattle.feed_law.proofs.FedLemmas.{did_feed, did_feed_cut_off}
use Rattle.feed_law.proofs.feeds_are_kept.Goals as goal

pub returns-clause-done : goal.returns-clause-done
returns-clause-done c = λ name t d bytes rest old new s did done. did_feed name t bytes d rest old new s did.0 did.1 did.2 done did.3

pub returns-clause-cut_off : goal.returns-clause-cut_off
returns-clause-cut_off c = λ name t d bytes rest old new s did gave. did_feed_cut_off name t bytes d rest old new s did.0 did.1 did.2 gave did.3
