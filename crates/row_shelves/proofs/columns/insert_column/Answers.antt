use Rattle.std.proofs.Common.{refl}
use Rattle.flow_law.specs.Lines.{with_empty_cell}
use Rattle.row_shelves.specs.Stocks.{changed, HasSpace}
use Rattle.row_shelves.specs.Shelves.{on_shelf}
use Rattle.row_shelves.proofs.ElementLemmas.{on_each}
use Rattle.row_shelves.proofs.SeenLemmas.{rows_changed, still_shelves}
use Rattle.row_shelves.proofs.SupplyLemmas.{surplus_changed}
use Rattle.row_shelves.proofs.columns.insert_column.Goals as goal

pub insert_each-requires : goal.insert_each-requires
insert_each-requires c = on_each on_shelf (HasSpace c.args.place) c.args.shelves.now.items c.requires.space

pub returns-clause-rows : goal.returns-clause-rows
returns-clause-rows c = rows_changed (changed (with_empty_cell c.args.place)) c.insert_each.new.shelves.items c.args.shelves.now.items c.insert_each.ensures.seen

pub returns-clause-shelves : goal.returns-clause-shelves
returns-clause-shelves c = still_shelves (changed (with_empty_cell c.args.place)) (λ r. refl) c.insert_each.new.shelves.items c.args.shelves.now.items c.insert_each.ensures.seen c.requires.shelves

pub returns-clause-surplus : goal.returns-clause-surplus
returns-clause-surplus c = surplus_changed (changed (with_empty_cell c.args.place)) c.insert_each.new.shelves.items c.args.shelves.now.items c.insert_each.ensures.seen
