-- What the course of a stack comes to.
use Rattle.std.specs.Prelude.{◌≡◌, ◌≤◌, ℕ, true, List, length, map, Option, Some}
use Rattle.std.specs.List.{AllByRecursion}
use Rattle.ss_text.specs.Texts.{Text}
use Rattle.tab_lines.specs.Lines.{lines_of}
use Rattle.outside.specs.Tree.{Tree}
use Rattle.outside.specs.Whole.{IsWhole}
use Rattle.outside.specs.Effects.{World}
use Rattle.course.specs.declared.exit.Status.{Status}
use Rattle.course.specs.Course.{Did, GaveOutStatus, by_lines, is_done_status}
use Rattle.view_stages.specs.Stages.{DefinitionOrRefusal}
use Rattle.view_stages.specs.Opening.{IsDefinition, definition_bytes}
use Rattle.stack_answers.specs.Answers.{step, finish}
use Rattle.stack_answers.specs.Opening.{opening}
use Rattle.stack_law.specs.Promises.{AreMaintained, AreCutOff}

-- what was done where the views of some names are opened over one another and over a tree that is told, and answer lines
pub record DidOver (names : List Text) (t : Tree) (ds : Text → DefinitionOrRefusal) (bytes : List ℕ) (rest : Option (List ℕ)) (old new : World) (s : Status) : Type 0 where
  pub some : 1 ≤ length names
  pub defined : AllByRecursion (λ name. IsDefinition name (definition_bytes t name) (ds name)) names
  pub told : old.store.tree ≡ Some t
  pub whole : IsWhole t
  pub did : Did (by_lines step finish (opening t (map ds names))) bytes rest old new s

-- where it was done, they were kept up to date over all lines of the input
abbrev pub DoneAreMaintained : Type 0
DoneAreMaintained =
    (names : List Text) (t : Tree) (ds : Text → DefinitionOrRefusal) (bytes : List ℕ) (rest : Option (List ℕ)) (old new : World) (s : Status)
    → DidOver names t ds bytes rest old new s → is_done_status s ≡ true → AreMaintained (map ds names) t (lines_of bytes) old new s

-- where their input gave out, the levels and the sources are those of the last sync
abbrev pub CutOffAreSynced : Type 0
CutOffAreSynced =
    (names : List Text) (t : Tree) (ds : Text → DefinitionOrRefusal) (bytes : List ℕ) (rest : Option (List ℕ)) (old new : World) (s : Status)
    → DidOver names t ds bytes rest old new s → GaveOutStatus old new s → AreCutOff (map ds names) t bytes rest old new
