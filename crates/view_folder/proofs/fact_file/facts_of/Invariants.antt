use Rattle.std.proofs.Common.{◌≡◌, drop}
use Rattle.flow_law.specs.Tables.{table_of}
use Rattle.view_folder.proofs.fact_file.facts_of.Given as goal

abbrev pub invariant-loop-facts : goal.invariant-loop-facts
invariant-loop-facts t l = table_of (drop l.facts-index l.tables) l.label ≡ table_of l.tables l.label
