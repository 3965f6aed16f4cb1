-- What a run may change.
use Rattle.std.specs.Prelude.{◌≡◌, ℕ, List, [], ◌∷◌, ◌++◌, map, Option, Some}
use Rattle.ss_text.specs.Texts.{Text}
use Rattle.tab_lines.specs.Lines.{lines_of}
use Rattle.outside.specs.Tree.{Tree}
use Rattle.outside.specs.Effects.{World}
use Rattle.view_stages.specs.Opening.{opening}
use Rattle.view_stages.specs.Places.{Exempt}
use Rattle.view_stages.specs.Opened.{view_exempt, Keeps}
use Rattle.upkeep_law.specs.Promises.{sources_exempt}
use Rattle.stack_answers.specs.Opening as stack_opening
use Rattle.stack_law.specs.Promises.{sources_stacked}
use Rattle.feed_law.specs.Promises.{sources_fed}
use Rattle.ss_top.specs.Commands.{Asked, Maintain, Stack, Feed, names_of}
use Rattle.ss_top.specs.Runs.{Definitions, Request}

-- the `.csv` files of the folders of these views
abbrev pub views_exempt : List Text → Definitions → List Exempt
views_exempt [] ds = []
views_exempt (name ∷ names) ds = view_exempt (ds name) ++ views_exempt names ds

-- what a command may change, over these lines
abbrev pub exempt_by : Asked → Tree → Definitions → List (List ℕ) → List Exempt
exempt_by (Maintain name) t ds lines = view_exempt (ds name) ++ sources_exempt (opening t (ds name)) lines
exempt_by (Stack names) t ds lines = views_exempt names ds ++ sources_stacked (stack_opening.opening t (map ds names)) lines
exempt_by (Feed name) t ds lines = view_exempt (ds name) ++ sources_fed (opening t (ds name)) lines
exempt_by asked t ds lines = views_exempt (names_of asked) ds

-- so it is for some of the first lines of an input, where it tells them
pub record KeepsBut (r : Request) (input : Option (List ℕ)) (new : World) : Type 0 where
  pub lines : List (List ℕ)
  pub first : (bytes : List ℕ) → input ≡ Some bytes → (more : List (List ℕ)) × (lines_of bytes ≡ lines ++ more)
  pub kept : Keeps (exempt_by r.asked r.tree r.definitions lines) r.tree new
