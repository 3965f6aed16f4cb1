use Rattle.std.proofs.Common.{sym, subst, arith}
use Rattle.std.specs.List.{AllByRecursion}
use Rattle.row_shelves.specs.Shelves.{IsShelf}
use Rattle.row_shelves.proofs.SupplyLemmas.{surplus_short}
use Rattle.row_shelves.proofs.coming.expect_shelf.Goals as goal

pub returns-then-are_enough-clause-ok : goal.returns-then-are_enough-clause-ok
returns-then-are_enough-clause-ok c =
    let ss = c.reserve-2.new.self in
    let short = surplus_short ss.items (subst (AllByRecursion IsShelf) (sym c.reserve-2.ensures.items) c.requires.shelves) in
    record {
      enough = omega (arith, short, ss.ok.0, c.if-are_enough.ensures, c.deref.ensures.len, c.deref-2.ensures.len);
      space = omega (arith, c.in_ok-reserve-2.ensures.ok, c.len.ensures);
      back = λ some. omega (arith, c.in_ok-reserve.ensures.ok);
    }
