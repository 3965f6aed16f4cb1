use Rattle.std.proofs.Common.{sym, ◌∙◌, ap, get_or}
use Rattle.row_shelves.specs.Shelves.{on_shelf}
use Rattle.row_shelves.proofs.FoundLemmas.{on_part}
use Rattle.row_shelves.proofs.find.row_at.Goals as goal

pub returns : goal.returns
returns c =
    let shelf = c.index-shelves-spot.result in
    let row = c.index-rows-spot.result in
    let spot = c.args.spot in
    on_part on_shelf c.args.shelves.now spot.shelf spot.place shelf row c.requires.shelf (c.requires.place shelf)
    ∙ ap (λ s. get_or (on_shelf s) spot.place row) (sym c.index-shelves-spot.is)
    ∙ ap (λ rows. get_or rows spot.place row) (sym c.rows.ensures)
    ∙ sym c.index-rows-spot.is
