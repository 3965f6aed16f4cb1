use Rattle.std.proofs.Common.{subst, sym}
use Rattle.outside.specs.declared.edit.Edit.{Edit}
use Rattle.whole_sync.specs.Listing.{FitsList}
use Rattle.whole_sync.proofs.ListingLemmas.{removed_written}
use Rattle.whole_sync.proofs.moves.push_removing.Goals as goal

pub returns-then-contains-clause-failed : goal.returns-then-contains-clause-failed
returns-then-contains-clause-failed c = λ is es all fits.
    removed_written es c.args.written.now.keys c.in-Remove.folder c.in-Remove.file
    (rw (c.in_ok-copy-in-Remove.ensures, c.in_ok-copy-in-Remove-2.ensures) at (sym c.if-contains.ensures)) all
    (subst (λ (e : Edit). FitsList es e) c.in-Remove.is fits)
