use Rattle.csv_catalog.proofs.FoundLemmas.{short_found, refused_found}
use Rattle.csv_catalog.proofs.found.shown.Goals as goal

pub returns-then-as_slice-lt-FRONT : goal.returns-then-as_slice-lt-FRONT
returns-then-as_slice-lt-FRONT c = λ held e. short_found 67108864 held c.args.front e (rw c.as_slice.ensures at c.if-as_slice-lt-FRONT.true)

pub returns-in-Some : goal.returns-in-Some
returns-in-Some c = λ held e. refused_found 67108864 c.args.count held c.args.front c.in-Some.fault e (rw c.in-Some.is at c.in_ok-fault.ensures)
