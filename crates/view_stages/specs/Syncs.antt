-- What a sync of an opened view writes and prints.
use Rattle.std.specs.Prelude.{◌||◌, ℕ, ◌+◌, List, [], ◌∷◌, ◌++◌, length, filter}
use Rattle.ss_text.specs.Texts.{is_in}
use Rattle.outside.specs.Effects.{Effect}
use Rattle.flow_law.specs.Tables.{labels_of}
use Rattle.view_meaning.specs.Meaning.{shape_of}
use Rattle.view_folder.specs.Files.{view_folder}
use Rattle.view_folder.specs.Sync.{later_sync}
use Rattle.outside.specs.Tree.{Tree}
use Rattle.view_session.specs.Session.{tables_of}
use Rattle.source_law.specs.Counted.{counted}
use Rattle.source_law.specs.Synced.{saving}
use Rattle.ss_print.specs.Printing.{prints_synced}
use Rattle.view_stages.specs.Open.{OpenValue}

-- the count that a sync prints: of the labels that were named, how many have a table, or had one at the last sync
abbrev pub sync_count : OpenValue → ℕ
sync_count o = length (filter (λ label. is_in label (labels_of (tables_of o.session)) || is_in label o.synced) o.session.changed.labels)

-- how many files and folders a sync writes, makes or removes over a tree: those of the sources, and those of the view, which are counted
abbrev pub sync_writes : Tree → OpenValue → ℕ
sync_writes t o = counted (saving o.session) t + sync_count o

-- the files of the labels that were named are synced, and their number is printed
abbrev pub view_effects : OpenValue → List Effect
view_effects o =
    later_sync (view_folder o.session.query.view_db) (shape_of o.session.query) (tables_of o.session) o.session.changed.labels
    ++ prints_synced (sync_count o) ∷ []

-- before them the sources that were named are saved
abbrev pub sync_effects : OpenValue → List Effect
sync_effects o = saving o.session ++ view_effects o
