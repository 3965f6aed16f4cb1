use Rattle.std.proofs.Common.{◌≡◌, take}
use Rattle.kept_tables.specs.Slots.{tables_in}
use Rattle.view_folder.specs.TableFiles.{table_files}
use Rattle.view_folder.proofs.kept_file.kept_files.Given as goal

abbrev pub invariant-loop-slot : goal.invariant-loop-slot
invariant-loop-slot l = l.files.items ≡ table_files l.shape (tables_in (take l.slot-index l.slots))
