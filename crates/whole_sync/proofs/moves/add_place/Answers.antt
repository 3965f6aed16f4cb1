use Rattle.std.proofs.Common.{subst}
use Rattle.std.specs.List.{Contains}
use Rattle.outside.specs.declared.edit.Edit.{Edit}
use Rattle.whole_sync.proofs.ListingLemmas.{place_added}
use Rattle.whole_sync.proofs.moves.add_place.Goals as goal

pub returns-in_ok-insert-in-Write-clause-ok : goal.returns-in_ok-insert-in-Write-clause-ok
returns-in_ok-insert-in-Write-clause-ok c = λ es all among.
    place_added es c.in-Write.folder c.in-Write.file c.in-Write.bytes c.args.places.now.keys c.insert.new.self.keys
    (rw (c.in_ok-copy-in-Write.ensures, c.in_ok-copy-in-Write-2.ensures) at c.in_ok-insert-in-Write.ensures.keys) all
    (subst (λ (e : Edit). Contains es e) c.in-Write.is among)
