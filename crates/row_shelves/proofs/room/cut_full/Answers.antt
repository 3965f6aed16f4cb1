use Rattle.std.proofs.Common.{sym, ap, ◌∙◌, arith}
use Rattle.std.proofs.lemmas.List.{get_or_default}
use Rattle.std.proofs.lemmas.List.Sums.{get_or-le-sum_by}
use Rattle.row_shelves.specs.Shelves.{IsShelf}
use Rattle.row_shelves.specs.Blanks.{beyond_half}
use Rattle.row_shelves.proofs.ShelfLemmas.{all_around}
use Rattle.row_shelves.proofs.room.cut_full.Goals as goal

pub returns-then-count-capacity-clause-shelves : goal.returns-then-count-capacity-clause-shelves
returns-then-count-capacity-clause-shelves c =
    let shelf = c.index-shelf.result.now in
    let here = c.requires.here shelf in
    all_around IsShelf c.args.shelves.now.items c.args.place shelf c.requires.before
    (record {
      some = here.some;
      large = here.large;
      room = rw (sym c.index-shelf.ensures) (omega (arith, c.len-count.ensures, c.capacity-capacity.ensures, c.if-count-capacity.true));
    })
    c.requires.behind

pub take_new-requires-clause-some : goal.take_new-requires-clause-some
take_new-requires-clause-some c =
    let shelf = c.index-shelf.result.now in
    let large = rw (sym c.index-shelf.ensures) at (c.requires.here shelf).large in
    let here = get_or-le-sum_by beyond_half c.args.shelves.now.items c.args.place shelf c.requires.there in
    omega (arith, here, ap beyond_half c.index-shelf.ensures, large, c.len-count.ensures, c.capacity-capacity.ensures, c.if-count-capacity.false, c.requires.enough)

pub split-requires-clause-long : goal.split-requires-clause-long
split-requires-clause-long c = λ d.
    let shelf = c.index-shelf.result.now in
    let here = c.requires.here d in
    let same = get_or_default c.args.shelves.now.items c.args.place d shelf c.requires.there ∙ sym c.index-shelf.ensures in
    let large = rw same at here.large in
    record { many = rw same (omega (arith, large, c.len-count.ensures, c.capacity-capacity.ensures, c.if-count-capacity.false)); large = here.large }
