use Rattle.std.proofs.Common.{arith}
use Rattle.row_shelves.proofs.SameLemmas.{none_shelved}
use Rattle.row_shelves.proofs.rows.RowShelves.new.Goals as goal

pub invariant_of-result : goal.invariant_of-result
invariant_of-result c = record {
  shelves = rw c.new.ensures.items none_shelved;
  rows = rw c.new.ensures.items tt;
  new = rw c.new-2.ensures.items tt;
  cells = rw c.new-3.ensures.items tt;
  supply = λ some. absurd (omega (arith, some, c.new-3.ensures.len));
}
