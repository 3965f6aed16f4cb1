use Rattle.std.proofs.Common.{ap, ◌∙◌, arith}
use Rattle.std.proofs.lemmas.List.Sums.{sum_by-set}
use Rattle.ss_text.specs.Places.{at_place}
use Rattle.flow_law.specs.Lines.{with_cell_at}
use Rattle.row_shelves.specs.Stocks.{changed}
use Rattle.row_shelves.specs.Shelves.{on_shelf}
use Rattle.row_shelves.specs.Blanks.{beyond_half}
use Rattle.row_shelves.proofs.ShelfLemmas.{changing, changed_on_shelf}
use Rattle.row_shelves.proofs.change.set_cell_at.Goals as goal

pub returns-clause-rows : goal.returns-clause-rows
returns-clause-rows c =
    let shelf = c.index_mut-shelf.result.now in
    let spot = c.args.spot in
    let g = changed (with_cell_at c.args.column c.args.value) in
    changed_on_shelf on_shelf (changing g) c.args.shelves.now.items spot.shelf spot.place shelf c.set_cell.new.self c.requires.on.shelf (c.requires.on.place shelf)
    (c.set_cell.ensures.items ∙ ap (λ s. at_place spot.place g (on_shelf s)) c.index_mut-shelf.ensures.value)

pub returns-clause-surplus : goal.returns-clause-surplus
returns-clause-surplus c =
    let shelf = c.index_mut-shelf.result.now in
    let same = ap beyond_half c.index_mut-shelf.ensures.value in
    omega (arith, sum_by-set beyond_half c.args.shelves.now.items c.args.spot.shelf c.set_cell.new.self shelf c.requires.on.shelf, same, c.set_cell.ensures.len)
