use Rattle.std.proofs.Common.{◌≡◌, refl}
use Rattle.kept_tables.proofs.OpeningLemmas.{next_row}
use Rattle.kept_tables.proofs.opening.kept_rows.Goals as goal

pub push-requires-clause-order : goal.push-requires-clause-order
push-requires-clause-order t c =
    let row = c.in-Some.row in
    let same : (c.in_ok-key.key, c.in_ok-cells.cells.items) ≡ row = rw (c.in_ok-key.ensures, c.in_ok-cells.ensures) refl in
    next_row c.args.rows c.loop-row.kept.rows c.loop-row.rows c.take_next.new.self row (c.in_ok-key.key, c.in_ok-cells.cells.items) c.requires c.loop-row.invariant.all c.in-Some.ensures.next same
