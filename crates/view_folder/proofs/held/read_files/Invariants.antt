use Rattle.std.specs.Vec.Iter.{into_iter_items}
use Rattle.outside.specs.Reading.{OnlyRead}
use Rattle.csv_catalog.specs.Reading.{WhereTold}
use Rattle.view_folder.specs.Held.{AllKeysFit}
use Rattle.view_folder.proofs.HeldLemmas.{IsReading}
use Rattle.view_folder.proofs.held.read_files.Given as goal

abbrev pub invariant-loop-name : goal.invariant-loop-name
invariant-loop-name g l = record {
  told : WhereTold (g.F.Folders.state l.fn.store) (λ t. IsReading l.shape t l.folder l.fn.names.items (into_iter_items l.name-iterator) l.tables.entries);
  keys : AllKeysFit l.shape l.tables.entries;
  store : OnlyRead (g.F.Folders.state l.fn.store) (g.F.Folders.state l.store);
}
