use Rattle.std.proofs.Common.{ap, sym, ◌∙◌, arith}
use Rattle.row_shelves.specs.Shelves.{on_shelf, IsShelf}
use Rattle.row_shelves.proofs.ShelfLemmas.{empty_removed, all_around}
use Rattle.row_shelves.proofs.RoomLemmas.{nothing}
use Rattle.row_shelves.proofs.change.take_empty.Goals as goal

pub returns-then-count-gt0-clause-shelves : goal.returns-then-count-gt0-clause-shelves
returns-then-count-gt0-clause-shelves c =
    let shelf = c.index.result.now in
    let here = c.requires.here shelf in
    all_around IsShelf c.args.shelves.now.items c.args.place shelf c.requires.before
    (record {
      some = rw (sym c.index.ensures) (omega (arith, c.len-count.ensures, c.if-count-gt0.true, shelf.ok.0));
      large = here.large;
      room = here.room;
    })
    c.requires.behind

pub returns-clause-rows : goal.returns-clause-rows
returns-clause-rows c =
    let shelf = c.index.result.now in
    rw c.remove.ensures.items (empty_removed on_shelf c.args.shelves.now.items c.args.place shelf c.requires.there
    (ap on_shelf (sym c.index.ensures) ∙ nothing shelf.items shelf.len shelf.ok.0 (omega (arith, c.len-count.ensures, c.if-count-gt0.false))))
