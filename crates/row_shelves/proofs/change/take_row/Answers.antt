use Rattle.std.proofs.Common.{ap, ◌∙◌, arith}
use Rattle.std.specs.Prelude.{remove}
use Rattle.std.proofs.lemmas.List.Sums.{sum_by-set}
use Rattle.row_shelves.specs.Shelves.{on_shelf, IsShelf}
use Rattle.row_shelves.specs.Blanks.{beyond_half}
use Rattle.row_shelves.proofs.ShelfLemmas.{removing, changed_on_shelf, all_set_behind}
use Rattle.row_shelves.proofs.change.take_row.Goals as goal

pub returns-clause-rows : goal.returns-clause-rows
returns-clause-rows c =
    let shelf = c.index_mut-shelf.result.now in
    let spot = c.args.spot in
    changed_on_shelf on_shelf removing c.args.shelves.now.items spot.shelf spot.place shelf c.remove.new.self c.requires.on.shelf (c.requires.on.place shelf)
    (c.remove.ensures.items ∙ ap (λ s. remove (on_shelf s) spot.place) c.index_mut-shelf.ensures.value)

pub returns-clause-behind : goal.returns-clause-behind
returns-clause-behind c = all_set_behind IsShelf c.args.shelves.now.items c.args.spot.shelf c.remove.new.self c.requires.shelves

pub returns-clause-surplus : goal.returns-clause-surplus
returns-clause-surplus c =
    let shelf = c.index_mut-shelf.result.now in
    let same = ap beyond_half c.index_mut-shelf.ensures.value in
    omega (arith, sum_by-set beyond_half c.args.shelves.now.items c.args.spot.shelf c.remove.new.self shelf c.requires.on.shelf, same, c.remove.ensures.len)
