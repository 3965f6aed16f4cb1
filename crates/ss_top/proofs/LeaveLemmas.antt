-- What a run left is between what is there before one of its stages and what is there behind it.
use Rattle.std.proofs.Common.{◌≡◌, ℕ, List, [], ◌∷◌, ◌++◌, Option, Some, map, refl, subst}
use Rattle.std.specs.Prelude.{Result, Ok, Err}
use Rattle.outside.specs.Tree.{Tree}
use Rattle.outside.specs.Effects.{Effect, World, Stored, Contents, contents, Partly}
use Rattle.view_meaning.specs.Meaning.{shape_of}
use Rattle.view_folder.specs.Held.{held}
use Rattle.course.specs.declared.status.Verdict.{Verdict}
use Rattle.course.specs.declared.status.Halt.{Halt}
use Rattle.course.specs.Answering.{ending}
use Rattle.plain_commands.specs.Applying as applying
use Rattle.course.specs.Course.{RanBy, RanSome, by_lines}
use Rattle.course.proofs.FrontLemmas.{lines_front}
use Rattle.view_stages.specs.Stages.{DefinitionOrRefusal, loaded_or_refused}
use Rattle.view_stages.specs.Opening.{opening, done_at_once}
use Rattle.view_stages.specs.Opened.{folder_of, view_exempt}
use Rattle.view_stages.specs.Places.{Exempt}
use Rattle.view_stages.proofs.StoppedLemmas.{Stopped, printed}
use Rattle.opened_view.specs.Answers.{step, finish}
use Rattle.plain_commands.specs.Verifying.{verified}
use Rattle.plain_commands.specs.Applies.{apply_opening}
use Rattle.plain_commands.proofs.StopLemmas.{show_over, check_definition, verify_over, apply_over}
use Rattle.upkeep_law.specs.Behind.{stages_from}
use Rattle.upkeep_law.proofs.StopLemmas.{maintain_over}
use Rattle.opened_view.specs.Steps.{starting}
use Rattle.stack_answers.specs.Answers as stack
use Rattle.stack_answers.specs.Opening as stack_opening
use Rattle.stack_law.specs.Behind.{stack_stages_from}
use Rattle.stack_law.proofs.StopLemmas.{stack_stops}
use Rattle.feed_answers.specs.Answers as feed
use Rattle.feed_law.specs.Behind.{feed_stages_from}
use Rattle.feed_law.proofs.StopLemmas.{feed_over}
use Rattle.ss_top.specs.Commands.{Asked, Check, Show, Maintain, Verify, Apply, Stack, Feed, Load, Other}
use Rattle.ss_top.specs.Runs.{Definitions, Request, course_by, course_of}
use Rattle.ss_top.specs.Between.{stages_by, file_by_file, IsLeftBetween}
use Rattle.ss_top.proofs.CourseLemmas.{told_front, leaves}
use Rattle.ss_top.proofs.KeepLemmas.{same_exempt}

-- the run of each command
module _ (s : Stored) (old new : Contents) (told : old.stored ≡ Some s) (lines : List (List ℕ)) where
  abbrev t : Tree
  t = s.tree

  show_stops : (d : DefinitionOrRefusal) → Partly (ending done_at_once (opening t d)).effects old new → Stopped (view_exempt d ++ []) ((ending done_at_once (opening t d)).effects ∷ []) t new
  show_stops (Err fields) h = printed [] s old new told _ h
  show_stops (Ok a) h = show_over s old new told lines a (loaded_or_refused t) h

  verify_stops : (d : DefinitionOrRefusal) → Partly (verified t d).effects old new → Stopped (view_exempt d ++ []) ((verified t d).effects ∷ []) t new
  verify_stops (Err fields) h = printed [] s old new told _ h
  verify_stops (Ok a) h = verify_over s old new told lines a (loaded_or_refused t) h

  maintain_stops : (d : DefinitionOrRefusal) → Partly ((by_lines step finish (opening t d)).whole lines).effects old new → Stopped (view_exempt d ++ []) (stages_from (opening t d) lines) t new
  maintain_stops (Err fields) h = printed [] s old new told _ h
  maintain_stops (Ok a) h = maintain_over s old new told lines a (loaded_or_refused t) refl h

  feed_stops : (d : DefinitionOrRefusal) → Partly ((by_lines feed.step feed.finish (starting feed.at_first (opening t d))).whole lines).effects old new → Stopped (view_exempt d ++ []) (feed_stages_from (opening t d) lines) t new
  feed_stops (Err fields) h = printed [] s old new told _ h
  feed_stops (Ok a) h = feed_over s old new told lines a (loaded_or_refused t) refl h

  apply_stops : (d : DefinitionOrRefusal) → Partly ((by_lines applying.step applying.finish (apply_opening t d)).whole lines).effects old new → Stopped [] (((by_lines applying.step applying.finish (apply_opening t d)).whole lines).effects ∷ []) t new
  apply_stops (Err fields) h = printed [] s old new told _ h
  apply_stops (Ok a) h = apply_over s old new told lines a (held (shape_of a.query) t (folder_of a)) h

  course_stops : (a : Asked) (ds : Definitions) → Partly ((course_by a t ds).whole lines).effects old new → Stopped (file_by_file a ds) (stages_by a t ds lines) t new
  course_stops (Check name) ds h = check_definition s old new told lines (view_exempt (ds name) ++ []) (ds name) h
  course_stops (Show name) ds h = show_stops (ds name) h
  course_stops (Maintain name) ds h = maintain_stops (ds name) h
  course_stops (Verify name) ds h = verify_stops (ds name) h
  course_stops (Apply name) ds h = apply_stops (ds name) h
  course_stops (Stack names) ds h = subst (λ (xs : List Exempt). Stopped xs (stack_stages_from (stack_opening.opening t (map ds names)) lines) t new) (same_exempt names ds) (stack_stops s old new told lines (map ds names) h)
  course_stops (Feed name) ds h = feed_stops (ds name) h
  course_stops (Load changes seed) ds h = printed [] s old new told _ h
  course_stops Other ds h = printed [] s old new told _ h

course_front : (a : Asked) (t : Tree) (ds : Definitions) (xs more : List (List ℕ)) (fs : List Effect) → (course_by a t ds).so_far xs ≡ Some fs → (rest : List Effect) × (((course_by a t ds).whole (xs ++ more)).effects ≡ fs ++ rest)
course_front (Check name) t ds xs more fs e = absurd (cc e)
course_front (Show name) t ds xs more fs e = absurd (cc e)
course_front (Maintain name) t ds xs more fs e = lines_front step finish (opening t (ds name)) xs more fs e
course_front (Verify name) t ds xs more fs e = absurd (cc e)
course_front (Apply name) t ds xs more fs e = lines_front applying.step applying.finish (apply_opening t (ds name)) xs more fs e
course_front (Stack names) t ds xs more fs e = lines_front stack.step stack.finish (stack_opening.opening t (map ds names)) xs more fs e
course_front (Feed name) t ds xs more fs e = lines_front feed.step feed.finish (starting feed.at_first (opening t (ds name))) xs more fs e
course_front (Load changes seed) t ds xs more fs e = absurd (cc e)
course_front Other t ds xs more fs e = absurd (cc e)

pub did_leave : (q : Request) (input rest : Option (List ℕ)) (old new : World) (r : Result Verdict Halt) → old.store.tree ≡ Some q.tree → RanSome (course_of q) old new r
    → ((bytes : List ℕ) → input ≡ Some bytes → RanBy (course_of q) bytes rest old new r) → IsLeftBetween q input new
did_leave q input rest old new r told some ran =
    leaves (course_of q) old new (file_by_file q.asked q.definitions) (stages_by q.asked q.tree q.definitions) q.tree told
    (λ writes stored lines h. course_stops (record { tree = q.tree; writes = writes }) (contents old) (contents new) stored lines q.asked q.definitions h)
    input r some (λ bytes given. told_front (course_of q) old new (course_front q.asked q.tree q.definitions) bytes rest r (ran bytes given))
