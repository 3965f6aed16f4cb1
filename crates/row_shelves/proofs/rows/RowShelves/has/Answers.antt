use Rattle.std.proofs.Common.{sym}
use Rattle.row_shelves.specs.Shelves.{all_rows}
use Rattle.row_shelves.proofs.ValueLemmas.{key_seen}
use Rattle.row_shelves.proofs.rows.RowShelves.has.Goals as goal

pub returns : goal.returns
returns c = rw (← c.self.view_is, c.has.ensures, c.deref.ensures.value) (sym (key_seen c.args.key.now (all_rows c.self.inside.shelves.items)))
