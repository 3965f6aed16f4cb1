use Rattle.std.proofs.Common.{◌≡◌, ◌++◌}
use Rattle.std.specs.Prelude.{filter}
use Rattle.std.specs.Vec.Iter.{into_iter_items}
use Rattle.csv_catalog.specs.Loaded.{is_relation_file}
use Rattle.csv_catalog.proofs.listing.relation_files.Given as goal

abbrev pub invariant-loop-name : goal.invariant-loop-name
invariant-loop-name l = l.files.items ++ filter is_relation_file (into_iter_items l.name-iterator) ≡ filter is_relation_file l.fn.names.items
