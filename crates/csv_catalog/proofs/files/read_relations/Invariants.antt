use Rattle.std.proofs.Common.{◌≤◌, ◌+◌, length}
use Rattle.std.specs.Vec.Iter.{into_iter_items}
use Rattle.outside.specs.Reading.{OnlyRead}
use Rattle.csv_catalog.specs.Reading.{WhereTold, AreKept}
use Rattle.csv_catalog.proofs.FilesLemmas.{IsReading}
use Rattle.csv_catalog.proofs.files.read_relations.Given as goal
use Rattle.schema_model.specs.Limits.{most_rows}

abbrev pub invariant-loop-file : goal.invariant-loop-file
invariant-loop-file g l = record {
  told : WhereTold (g.F.Folders.state l.fn.store) (λ t. IsReading t l.db l.folder l.fn.files.items l.fn.count (into_iter_items l.file-iterator) l.kept.items l.counted);
  kept : AreKept l.fn.count l.kept.items l.counted;
  few : l.counted ≤ most_rows;
  short : length l.kept.items + length (into_iter_items l.file-iterator) ≤ length l.fn.files.items;
  store : OnlyRead (g.F.Folders.state l.fn.store) (g.F.Folders.state l.store);
}
