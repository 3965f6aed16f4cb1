-- What is seen of levels.
use Rattle.std.specs.Prelude.{◌||◌, ℕ, List, [], ◌∷◌, ◌++◌, map, filter, length}
use Rattle.ss_text.specs.Texts.{Text, text_cmp, is_in}
use Rattle.ss_text.specs.Ascending.{ascending}
use Rattle.schema_model.specs.Catalogue.{CatalogueValue}
use Rattle.view_def.specs.Query.{Query}
use Rattle.flow_law.specs.Lines.{label_of}
use Rattle.flow_law.specs.Tables.{TablesValue, labels_of}
use Rattle.flow_law.specs.declared.line.TableLine.{TableLine}
use Rattle.view_meaning.specs.Meaning.{meaning}
use Rattle.view_stack.specs.Stands.{given_by}

-- a level: its view, the labels that were named since the last sync, and those of its tables at that sync
pub record LevelValue : Type 0 where
  pub query : Query
  pub named : List Text
  pub synced : List Text

-- levels after the lines of each, which name labels
abbrev pub with_lines : List LevelValue → List (List TableLine) → List LevelValue
with_lines [] all = []
with_lines (l ∷ ls) [] = l ∷ ls
with_lines (l ∷ ls) (lines ∷ all) = record { query = l.query; named = ascending text_cmp (l.named ++ map label_of lines); synced = l.synced } ∷ with_lines ls all

-- levels that were just synced, each over the catalogue that the one below gives
abbrev pub synced_over : CatalogueValue → List Query → List LevelValue
synced_over c [] = []
synced_over c (q ∷ qs) = record { query = q; named = []; synced = labels_of (meaning c q) } ∷ synced_over (given_by c q) qs

-- of the labels that a level's lines named, how many have a table, or had one at the last sync
abbrev pub count_of : LevelValue → TablesValue → ℕ
count_of l ts = length (filter (λ label. is_in label (labels_of ts) || is_in label l.synced) l.named)
