use Rattle.std.proofs.Common.{ap, ◌∙◌, ◌++◌, ◌∷◌, [], length, arith}
use Rattle.row_shelves.proofs.SameLemmas.{one_ascends}
use Rattle.row_shelves.proofs.RoomLemmas.{nothing, is_shelf}
use Rattle.row_shelves.proofs.put.put_first.Goals as goal

pub returns-clause-shelves : goal.returns-clause-shelves
returns-clause-shelves c =
    let ss = c.args.shelves.now in
    let new = c.push.new.self in
    let e = c.push_reserved.ensures.items ∙ ap (λ xs. xs ++ new ∷ []) (nothing ss.items ss.len ss.ok.0 c.requires.none) in
    rw e (record {
      keys = rw (c.push.ensures.items, c.requires.new.none) (one_ascends c.args.row);
      each = (
        is_shelf new (omega (arith, c.push.ensures.len)) (omega (arith, c.push.ensures.capacity, c.requires.new.large))
            (omega (arith, c.push.ensures.len, c.push.ensures.capacity, c.requires.new.large, c.args.new.ok.0, ap length c.requires.new.none)),
        tt,
      );
    })
