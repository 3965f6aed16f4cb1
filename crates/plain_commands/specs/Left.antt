-- What is left of a view folder when lines were applied to its tables.
use Rattle.std.specs.Prelude.{◌≡◌, Some}
use Rattle.outside.specs.Streams.{with_bytes}
use Rattle.outside.specs.Tree.{Tree}
use Rattle.outside.specs.Effects.{World}
use Rattle.view_folder.specs.Files.{view_folder}
use Rattle.view_folder.specs.Sync.{HoldsNamed}
use Rattle.ss_print.specs.Printing.{lines_text, applied_rows}
use Rattle.plain_commands.specs.Applying.{ApplyState, synced_count}

-- the files of the labels that were named are those of their tables, every other file is as it was, and the numbers were printed
pub record IsLeft (u : ApplyState) (t : Tree) (old new : World) : Type 0 where
  pub tree : Tree
  pub told : new.store.tree ≡ Some tree
  pub files : HoldsNamed (view_folder u.view_db) u.shape u.tables u.named t tree
  pub printed : new.output.held ≡ with_bytes (lines_text (applied_rows u.lines (synced_count u))) old.output.held
