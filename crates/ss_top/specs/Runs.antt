-- What words ask of a store, and the course of a run that does it.
use Rattle.std.specs.Prelude.{◌≡◌, Bool, true, List, [], ◌∷◌, map, Option, Some, ℕ}
use Rattle.std.specs.List.{AllByRecursion}
use Rattle.ss_text.specs.Texts.{Text}
use Rattle.outside.specs.Tree.{Tree}
use Rattle.outside.specs.Effects.{World}
use Rattle.course.specs.declared.status.Verdict.TheVariants as verdict
use Rattle.course.specs.Answering.{ending}
use Rattle.plain_commands.specs.Applying as applying
use Rattle.course.specs.Course.{Course, unread, by_lines}
use Rattle.view_stages.specs.Stages.{DefinitionOrRefusal}
use Rattle.view_stages.specs.Opening.{IsDefinition, definition_bytes, opening, done_at_once}
use Rattle.opened_view.specs.Answers.{step, finish}
use Rattle.opened_view.specs.Limits.{StepsBehind, StepsBy}
use Rattle.opened_view.specs.Steps.{starting}
use Rattle.stack_answers.specs.Answers as stack
use Rattle.stack_answers.specs.Opening as stack_opening
use Rattle.feed_answers.specs.Answers as feed
use Rattle.feed_answers.specs.Limits as feed_limit
use Rattle.plain_commands.specs.Checking.{checked}
use Rattle.plain_commands.specs.Verifying.{verified}
use Rattle.plain_commands.specs.Loads.{loaded}
use Rattle.plain_commands.specs.Applies.{apply_opening}
use Rattle.ss_top.specs.Commands.{Asked, Check, Show, Maintain, Verify, Apply, Stack, Feed, Load, Other, asked_of, names_of, prints_usage, uses_store}

-- what each name is defined as
abbrev pub Definitions : Type 0
Definitions = Text → DefinitionOrRefusal

-- each of these names is defined so over a tree
abbrev pub AreDefined : List Text → Tree → Definitions → Type 0
AreDefined names t ds = AllByRecursion (λ name. IsDefinition name (definition_bytes t name) (ds name)) names

-- a command, the tree that it is run over, and the definitions of its names
pub record Request : Type 0 where
  pub asked : Asked
  pub tree : Tree
  pub definitions : Definitions

-- a command of one view, which has this definition
abbrev pub of_view : (Text → Asked) → Text → Tree → DefinitionOrRefusal → Request
of_view command name t d = record { asked = command name; tree = t; definitions = λ _. d }

-- `stack` of these names, which have these definitions
abbrev pub of_views : List Text → Tree → Definitions → Request
of_views names t ds = record { asked = Stack names; tree = t; definitions = ds }

-- the content is told, where it is wanted
abbrev pub Told : {A : Type 0} → Bool → Option A → A → Type 0
Told wanted content x = wanted ≡ true → content ≡ Some x

-- the words ask this of a store, which tells its tree where they use it
pub record Asks (words : List Text) (w : World) (r : Request) : Type 0 where
  pub is : r.asked ≡ asked_of words
  pub told : Told (uses_store r.asked) w.store.tree r.tree
  pub defined : AreDefined (names_of r.asked) r.tree r.definitions

-- so it is over every tree that the store may have, where a command uses it, and all definitions of its names
abbrev pub OverEach : Asked → Option Tree → (Tree → Definitions → Type 0) → Type 0
OverEach a tree P = (t : Tree) (ds : Definitions) → Told (uses_store a) tree t → AreDefined (names_of a) t ds → P t ds

-- the course of a command
abbrev pub course_by : Asked → Tree → Definitions → Course
course_by (Check name) t ds = unread (checked (ds name))
course_by (Show name) t ds = unread (ending done_at_once (opening t (ds name)))
course_by (Maintain name) t ds = by_lines step finish (opening t (ds name))
course_by (Verify name) t ds = unread (verified t (ds name))
course_by (Apply name) t ds = by_lines applying.step applying.finish (apply_opening t (ds name))
course_by (Stack names) t ds = by_lines stack.step stack.finish (stack_opening.opening t (map ds names))
course_by (Feed name) t ds = by_lines feed.step feed.finish (starting feed.at_first (opening t (ds name)))
course_by (Load changes seed) t ds = unread (loaded changes seed)
course_by Other t ds = unread (record { effects = prints_usage ∷ []; status = verdict.Usage })

-- and of what is asked
abbrev pub course_of : Request → Course
course_of r = course_by r.asked r.tree r.definitions

-- a command takes no more steps than that, where it is `maintain` or `feed`
abbrev pub StepsOf : Asked → Tree → Definitions → List (List ℕ) → ℕ → ℕ → Type 0
StepsOf (Maintain name) t ds ls i j = StepsBehind (opening t (ds name)) ls i j
StepsOf (Feed name) t ds ls i j = StepsBy feed.step feed_limit.limit (starting feed.at_first (opening t (ds name))) ls i j
StepsOf asked t ds ls i j = Unit {0}
