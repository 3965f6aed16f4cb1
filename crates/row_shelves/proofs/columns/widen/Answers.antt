use Rattle.row_shelves.specs.Stocks.{Has}
use Rattle.row_shelves.specs.Shelves.{on_shelf}
use Rattle.row_shelves.proofs.ElementLemmas.{on_each, of_each}
use Rattle.row_shelves.proofs.SeenLemmas.{same_rows, same_shelves}
use Rattle.row_shelves.proofs.SupplyLemmas.{same_surplus}
use Rattle.row_shelves.proofs.columns.widen.Goals as goal

pub returns-in_err-widen_each-clause-rows : goal.returns-in_err-widen_each-clause-rows
returns-in_err-widen_each-clause-rows c = same_rows c.widen_each.new.shelves.items c.args.shelves.now.items c.widen_each.ensures.same

pub returns-in_err-widen_each-clause-shelves : goal.returns-in_err-widen_each-clause-shelves
returns-in_err-widen_each-clause-shelves c = same_shelves c.widen_each.new.shelves.items c.args.shelves.now.items c.widen_each.ensures.same c.requires

pub returns-in_err-widen_each-clause-grows : goal.returns-in_err-widen_each-clause-grows
returns-in_err-widen_each-clause-grows c = λ n h. of_each on_shelf (Has n) c.widen_each.new.shelves.items (c.widen_each.ensures.grows n (on_each on_shelf (Has n) c.args.shelves.now.items h))

pub returns-clause-rows : goal.returns-clause-rows
returns-clause-rows c = same_rows c.widen_each.new.shelves.items c.args.shelves.now.items c.widen_each.ensures.same

pub returns-clause-shelves : goal.returns-clause-shelves
returns-clause-shelves c = same_shelves c.widen_each.new.shelves.items c.args.shelves.now.items c.widen_each.ensures.same c.requires

pub returns-clause-grows : goal.returns-clause-grows
returns-clause-grows c = λ n h. of_each on_shelf (Has n) c.widen_each.new.shelves.items (c.widen_each.ensures.grows n (on_each on_shelf (Has n) c.args.shelves.now.items h))

pub returns-clause-room : goal.returns-clause-room
returns-clause-room c = of_each on_shelf (Has c.args.bound) c.widen_each.new.shelves.items c.in_ok-widen_each.ensures.room

pub returns-in_err-widen_each-clause-surplus : goal.returns-in_err-widen_each-clause-surplus
returns-in_err-widen_each-clause-surplus c = same_surplus c.widen_each.new.shelves.items c.args.shelves.now.items c.widen_each.ensures.same

pub returns-clause-surplus : goal.returns-clause-surplus
returns-clause-surplus c = same_surplus c.widen_each.new.shelves.items c.args.shelves.now.items c.widen_each.ensures.same
