use Rattle.std.proofs.Common.{ap, ◌∙◌, arith}
use Rattle.std.specs.Prelude.{insert}
use Rattle.std.proofs.lemmas.List.Sums.{sum_by-set}
use Rattle.row_shelves.specs.Shelves.{on_shelf, IsShelf}
use Rattle.row_shelves.specs.Blanks.{beyond_half}
use Rattle.row_shelves.proofs.ShelfLemmas.{inserting, changed_on_shelf, all_set_behind}
use Rattle.row_shelves.proofs.change.insert_at.Goals as goal

pub returns-clause-rows : goal.returns-clause-rows
returns-clause-rows c =
    let shelf = c.index_mut-shelf.result.now in
    let spot = c.args.spot in
    changed_on_shelf on_shelf (inserting c.args.row) c.args.shelves.now.items spot.shelf spot.place shelf c.insert.new.self c.requires.there (c.requires.at.place shelf c.requires.there)
    (c.insert.ensures.items ∙ ap (λ s. insert (on_shelf s) spot.place c.args.row) c.index_mut-shelf.ensures.value)

pub returns-clause-behind : goal.returns-clause-behind
returns-clause-behind c = all_set_behind IsShelf c.args.shelves.now.items c.args.spot.shelf c.insert.new.self c.requires.shelves

pub returns-clause-surplus : goal.returns-clause-surplus
returns-clause-surplus c =
    let shelf = c.index_mut-shelf.result.now in
    let same = ap beyond_half c.index_mut-shelf.ensures.value in
    omega (arith, sum_by-set beyond_half c.args.shelves.now.items c.args.spot.shelf c.insert.new.self shelf c.requires.there, same, c.insert.ensures.len)
