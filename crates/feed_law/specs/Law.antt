-- What the course of a view with feeds comes to.
use Rattle.std.specs.Prelude.{◌≡◌, ℕ, true, List, Option, Some}
use Rattle.ss_text.specs.Texts.{Text}
use Rattle.tab_lines.specs.Lines.{lines_of}
use Rattle.outside.specs.Tree.{Tree}
use Rattle.outside.specs.Whole.{IsWhole}
use Rattle.outside.specs.Effects.{World}
use Rattle.course.specs.declared.exit.Status.{Status}
use Rattle.course.specs.Course.{Did, GaveOutStatus, by_lines, is_done_status}
use Rattle.view_stages.specs.Stages.{DefinitionOrRefusal}
use Rattle.view_stages.specs.Opening.{IsDefinition, definition_bytes, opening}
use Rattle.opened_view.specs.Steps.{starting}
use Rattle.feed_answers.specs.Answers.{step, finish, at_first}
use Rattle.feed_law.specs.Promises.{IsFed, IsFedCutOff}

-- what was done where a view is opened over a tree that is told, and answers the lines of its feeds
abbrev pub DidOver : Text → Tree → DefinitionOrRefusal → List ℕ → Option (List ℕ) → World → World → Status → Type 0
DidOver name t d bytes rest old new s =
    IsDefinition name (definition_bytes t name) d × (old.store.tree ≡ Some t) × IsWhole t × Did (by_lines step finish (starting at_first (opening t d))) bytes rest old new s

-- where it was done, the view was kept up to date with its feeds over all lines of the input
abbrev pub DoneIsFed : Type 0
DoneIsFed =
    (name : Text) (t : Tree) (d : DefinitionOrRefusal) (bytes : List ℕ) (rest : Option (List ℕ)) (old new : World) (s : Status)
    → DidOver name t d bytes rest old new s → is_done_status s ≡ true → IsFed d t (lines_of bytes) old new s

-- where its input gave out, the view and the sources are those of the last sync
abbrev pub CutOffIsFed : Type 0
CutOffIsFed =
    (name : Text) (t : Tree) (d : DefinitionOrRefusal) (bytes : List ℕ) (rest : Option (List ℕ)) (old new : World) (s : Status)
    → DidOver name t d bytes rest old new s → GaveOutStatus old new s → IsFedCutOff d t bytes rest old new
