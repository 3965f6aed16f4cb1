use Rattle.std.proofs.Common.{ap, sym, ◌∙◌, ◌+◌, ◌-◌, ◌≡◌, ◌≤◌, suc, arith}
use Rattle.std.proofs.lemmas.List.Sums.{sum_by-set, sum_by-insert}
use Rattle.std.specs.Prelude.{slice_set}
use Rattle.row_shelves.specs.Shelves.{on_shelf, IsShelf, full}
use Rattle.row_shelves.specs.Blanks.{beyond_half}
use Rattle.row_shelves.proofs.ShelfLemmas.{cut_in_two}
use Rattle.row_shelves.proofs.RoomLemmas.{all_cut, is_shelf}
use Rattle.row_shelves.proofs.room.split.Goals as goal

pub returns-clause-rows : goal.returns-clause-rows
returns-clause-rows c =
    let ss = c.args.shelves.now.items in
    let shelf = c.index_mut-shelf.result.now in
    rw c.in-Ok.ensures.items (cut_in_two on_shelf ss c.args.place shelf c.cut.new.self c.cut.new.tail c.requires.there (c.cut.ensures.both ∙ ap on_shelf c.index_mut-shelf.ensures.value))

pub returns-clause-shelves : goal.returns-clause-shelves
returns-clause-shelves c =
    let ss = c.args.shelves.now.items in
    let shelf = c.index_mut-shelf.result.now in
    let front = c.cut.new.self in
    let back = c.cut.new.tail in
    let cut = c.cut.ensures in
    let long = rw (sym c.index_mut-shelf.ensures.value) at (c.requires.long shelf) in
    let many : full ≤ shelf.len = long.many in
    let front_len : front.len ≡ shelf.len - 32 = cut.len ∙ ap (λ n. n - 32) c.len.ensures in
    let back_len : front.len + back.len ≡ shelf.len = ap (λ n. n + back.len) front_len ∙ sym (ap (λ n. n - 32 + back.len) c.len.ensures) ∙ cut.tail_len in
    let next : c.args.place + 1 ≡ suc c.args.place = omega arith in
    rw (c.in-Ok.ensures.items, next) (all_cut IsShelf ss c.args.place front back c.requires.there c.requires.before c.requires.behind
    (is_shelf front (omega (arith, front_len, many)) (omega (arith, cut.capacity, long.large)) (omega (arith, cut.capacity, shelf.ok.1, front_len, many)))
    (is_shelf back (omega (arith, back_len, front_len, many)) (omega (arith, cut.tail_capacity, c.requires.new.large)) (omega (arith, cut.tail_capacity, c.requires.new.large, back_len, front_len, many))))

pub returns-clause-surplus : goal.returns-clause-surplus
returns-clause-surplus c =
    let ss = c.args.shelves.now.items in
    let shelf = c.index_mut-shelf.result.now in
    let front = c.cut.new.self in
    let back = c.cut.new.tail in
    let cut = c.cut.ensures in
    let long = rw (sym c.index_mut-shelf.ensures.value) at (c.requires.long shelf) in
    let same = ap beyond_half c.index_mut-shelf.ensures.value in
    rw c.in-Ok.ensures.items (omega (arith, sum_by-insert beyond_half (slice_set ss c.args.place front) (c.args.place + 1) back, sum_by-set beyond_half ss c.args.place front shelf c.requires.there, same, cut.len, cut.tail_len, c.len.ensures, long.many, long.large, shelf.ok.1))
