use Rattle.std.proofs.Common.{refl}
use Rattle.flow_law.specs.Lines.{without_cell}
use Rattle.row_shelves.specs.Stocks.{changed, HasCell}
use Rattle.row_shelves.specs.Shelves.{on_shelf}
use Rattle.row_shelves.proofs.ElementLemmas.{on_each}
use Rattle.row_shelves.proofs.SeenLemmas.{rows_changed, still_shelves}
use Rattle.row_shelves.proofs.SupplyLemmas.{surplus_changed}
use Rattle.row_shelves.proofs.columns.remove_column.Goals as goal

pub remove_each-requires : goal.remove_each-requires
remove_each-requires c = on_each on_shelf (HasCell c.args.place) c.args.shelves.now.items c.requires.cells

pub returns-clause-rows : goal.returns-clause-rows
returns-clause-rows c = rows_changed (changed (without_cell c.args.place)) c.remove_each.new.shelves.items c.args.shelves.now.items c.remove_each.ensures.seen

pub returns-clause-shelves : goal.returns-clause-shelves
returns-clause-shelves c = still_shelves (changed (without_cell c.args.place)) (λ r. refl) c.remove_each.new.shelves.items c.args.shelves.now.items c.remove_each.ensures.seen c.requires.shelves

pub returns-clause-surplus : goal.returns-clause-surplus
returns-clause-surplus c = surplus_changed (changed (without_cell c.args.place)) c.remove_each.new.shelves.items c.args.shelves.now.items c.remove_each.ensures.seen
