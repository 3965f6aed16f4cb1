-- What a run that breaks off leaves: each file and each folder is as a sync found it or as it leaves it, but for the file that was under way; and what is not written file by file is all the one or all the other.
use Rattle.std.specs.Prelude.{◌≡◌, ℕ, List, [], ◌∷◌, map, Option, Some}
use Rattle.tab_lines.specs.Lines.{lines_of}
use Rattle.outside.specs.Tree.{Tree}
use Rattle.outside.specs.Effects.{Effect, World}
use Rattle.view_stages.specs.Opening.{opening}
use Rattle.view_stages.specs.Places.{Exempt}
use Rattle.view_stages.specs.Between.{StopsIn}
use Rattle.upkeep_law.specs.Behind.{stages_from}
use Rattle.stack_answers.specs.Opening as stack_opening
use Rattle.stack_law.specs.Behind.{stack_stages_from}
use Rattle.feed_law.specs.Behind.{feed_stages_from}
use Rattle.ss_top.specs.Commands.{Asked, Maintain, Apply, Stack, Feed, names_of}
use Rattle.ss_top.specs.Runs.{Definitions, Request, course_by}
use Rattle.ss_top.specs.Promises.{views_exempt}

-- the stages of a command over these lines: but for `maintain`, `stack` and `feed` there is one, which makes one sync, or none
abbrev pub stages_by : Asked → Tree → Definitions → List (List ℕ) → List (List Effect)
stages_by (Maintain name) t ds lines = stages_from (opening t (ds name)) lines
stages_by (Stack names) t ds lines = stack_stages_from (stack_opening.opening t (map ds names)) lines
stages_by (Feed name) t ds lines = feed_stages_from (opening t (ds name)) lines
stages_by asked t ds lines = ((course_by asked t ds).whole lines).effects ∷ []

-- what it writes file by file: its views' own files; `apply` writes nothing so
abbrev pub file_by_file : Asked → Definitions → List Exempt
file_by_file (Apply name) ds = []
file_by_file asked ds = views_exempt (names_of asked) ds

-- the store tells what a run left, which stopped in one of its stages; the lines are those of the input, where it tells them
pub record IsLeftIn (exempt : List Exempt) (stages : List (List ℕ) → List (List Effect)) (t : Tree) (input : Option (List ℕ)) (new : World) : Type 0 where
  pub lines : List (List ℕ)
  pub all : (bytes : List ℕ) → input ≡ Some bytes → lines ≡ lines_of bytes
  pub tree : Tree
  pub told : new.store.tree ≡ Some tree
  pub stops : StopsIn exempt (stages lines) t tree

abbrev pub IsLeftBetween : Request → Option (List ℕ) → World → Type 0
IsLeftBetween r input new = IsLeftIn (file_by_file r.asked r.definitions) (stages_by r.asked r.tree r.definitions) r.tree input new
