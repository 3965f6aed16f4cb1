use Rattle.std.proofs.Common.{◌≡◌, map, take}
use Rattle.view_folder.specs.TableFiles.{table_file}
use Rattle.view_folder.proofs.table_file.table_files.Given as goal

abbrev pub invariant-loop-place : goal.invariant-loop-place
invariant-loop-place l = l.files.items ≡ map (table_file l.shape) (take l.place l.tables)
