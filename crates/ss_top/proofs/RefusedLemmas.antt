-- A run that ended with a refusal changed nothing.
use Rattle.std.proofs.Common.{◌≡◌, true, [], map, refl, sym, ap, ◌∙◌}
use Rattle.std.specs.Prelude.{Result}
use Rattle.std.proofs.lemmas.Bool.{false≢true}
use Rattle.outside.specs.Tree.{Tree}
use Rattle.outside.specs.Effects.{World}
use Rattle.plain_commands.specs.Applying as applying
use Rattle.course.specs.declared.status.Verdict.{Verdict}
use Rattle.course.specs.Answering.{ending}
use Rattle.course.specs.declared.status.Halt.{Halt}
use Rattle.course.specs.Course.{RanSome, by_lines, status_of, is_refused_status}
use Rattle.course.specs.Idle.{Unchanged}
use Rattle.course.proofs.RefusedLemmas.{some_refused}
use Rattle.view_stages.specs.Opening.{opening, done_at_once}
use Rattle.view_stages.proofs.RefusedLemmas.{opening_unchanged}
use Rattle.opened_view.specs.Answers.{step, finish}
use Rattle.plain_commands.specs.Checking.{checked}
use Rattle.plain_commands.specs.Loads.{loaded}
use Rattle.plain_commands.specs.Verifying.{verified}
use Rattle.plain_commands.specs.Applies.{apply_opening}
use Rattle.plain_commands.proofs.RefusedLemmas.{check_unchanged, verify_unchanged, apply_unchanged}
use Rattle.upkeep_law.proofs.RefusedLemmas.{lines_unrefused}
use Rattle.opened_view.specs.Steps.{starting}
use Rattle.stack_answers.specs.Answers as stack
use Rattle.stack_answers.specs.Opening as stack_opening
use Rattle.stack_law.proofs.RefusedLemmas.{stack_unchanged}
use Rattle.feed_answers.specs.Answers as feed
use Rattle.feed_law.proofs.RefusedLemmas.{feed_unrefused}
use Rattle.ss_top.specs.Commands.{Asked, Check, Show, Maintain, Verify, Apply, Stack, Feed, Load, Other, uses_store}
use Rattle.ss_top.specs.Runs.{Definitions, course_by, Told}

-- nothing is changed where a run is refused
module _ (old new : World) (r : Result Verdict Halt) (refused : is_refused_status (status_of r) ≡ true) where
  pub did_refuse : (a : Asked) (t : Tree) (ds : Definitions) → Told (uses_store a) old.store.tree t → RanSome (course_by a t ds) old new r → Unchanged old new
  did_refuse (Check name) t ds told h = check_unchanged t old new (told refl) (status_of r) refused (ds name) (some_refused old new r refused (checked (ds name)) r refl h.ran)
  did_refuse (Show name) t ds told h =
      opening_unchanged t old new (told refl) (status_of r) refused (ending done_at_once) (λ es v. refl) (λ es o. refl) (ds name) (some_refused old new r refused (ending done_at_once (opening t (ds name))) r refl h.ran)
  did_refuse (Maintain name) t ds told h =
      opening_unchanged t old new (told refl) (status_of r) refused (λ x. (by_lines step finish x).whole h.lines) (λ es v. refl) (λ es o. lines_unrefused h.lines [] o) (ds name)
      (some_refused old new r refused ((by_lines step finish (opening t (ds name))).whole h.lines) r refl h.ran)
  did_refuse (Verify name) t ds told h = verify_unchanged t old new (told refl) (status_of r) refused (ds name) (some_refused old new r refused (verified t (ds name)) r refl h.ran)
  did_refuse (Apply name) t ds told h =
      apply_unchanged t old new (told refl) (status_of r) refused h.lines (ds name) (some_refused old new r refused ((by_lines applying.step applying.finish (apply_opening t (ds name))).whole h.lines) r refl h.ran)
  did_refuse (Stack names) t ds told h =
      stack_unchanged t old new (told refl) (status_of r) refused h.lines (map ds names) (some_refused old new r refused ((by_lines stack.step stack.finish (stack_opening.opening t (map ds names))).whole h.lines) r refl h.ran)
  did_refuse (Feed name) t ds told h =
      opening_unchanged t old new (told refl) (status_of r) refused (λ x. (by_lines feed.step feed.finish (starting feed.at_first x)).whole h.lines) (λ es v. refl) (λ es o. feed_unrefused h.lines [] o) (ds name)
      (some_refused old new r refused ((by_lines feed.step feed.finish (starting feed.at_first (opening t (ds name)))).whole h.lines) r refl h.ran)
  did_refuse (Load changes seed) t ds told h =
      let f = some_refused old new r refused (loaded changes seed) r refl h.ran in
      absurd (false≢true (ap is_refused_status (sym f.status) ∙ refused))
  did_refuse Other t ds told h =
      let f = some_refused old new r refused ((course_by Other t ds).whole h.lines) r refl h.ran in
      absurd (false≢true (ap is_refused_status (sym f.status) ∙ refused))
