use Rattle.std.proofs.Common.{◌≡◌, map, take}
use Rattle.view_folder.specs.TableFiles.{table_file}
use Rattle.view_folder.proofs.fact_file.fact_files.Given as goal

abbrev pub invariant-loop-facts : goal.invariant-loop-facts
invariant-loop-facts t l = l.files.items ≡ map (table_file l.shape) (take l.facts-index l.tables)
