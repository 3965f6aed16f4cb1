-- The effects of each course are on what is exempt.
use Rattle.std.proofs.Common.{◌≡◌, ℕ, List, [], ◌∷◌, ◌++◌, Option, None, Some, map, refl, sym, ap, ◌∙◌, subst, append-nil}
use Rattle.std.specs.Prelude.{Result, Ok, Err}
use Rattle.ss_text.specs.Texts.{Text}
use Rattle.outside.specs.Tree.{Tree}
use Rattle.outside.specs.Effects.{Effect, World, contents, performed}
use Rattle.view_meaning.specs.Meaning.{shape_of}
use Rattle.course.specs.declared.status.Verdict.{Verdict}
use Rattle.course.specs.declared.status.Halt.{Halt}
use Rattle.course.specs.declared.status.Halt.TheVariants as halt
use Rattle.course.specs.Answering.{EndedOver, ending}
use Rattle.tab_lines.specs.Lines.{lines_of, whole_lines}
use Rattle.schema_model.proofs.ReadyLemmas.{same_some}
use Rattle.view_folder.specs.Held.{held}
use Rattle.course.specs.Course.{RanBy, RanSome, GaveOut, HeldUp, by_lines}
use Rattle.course.proofs.TakenLemmas.{taken_lines}
use Rattle.view_stages.specs.Stages.{DefinitionOrRefusal, loaded_or_refused}
use Rattle.view_stages.specs.Opening.{opening, done_at_once}
use Rattle.view_stages.specs.Places.{Exempt}
use Rattle.view_stages.specs.Opened.{Keeps, folder_of, view_exempt}
use Rattle.view_stages.proofs.PlaceLemmas.{AllWithin}
use Rattle.plain_commands.specs.Applying as applying
use Rattle.plain_commands.specs.Checking.{checked}
use Rattle.plain_commands.specs.Verifying.{verified}
use Rattle.plain_commands.specs.Applies.{apply_opening}
use Rattle.plain_commands.proofs.WithinLemmas.{show_over, apply_over, apply_so_far, verify_over}
use Rattle.opened_view.specs.Answers.{step, finish}
use Rattle.upkeep_law.specs.Promises.{sources_exempt}
use Rattle.upkeep_law.proofs.WithinLemmas.{maintain_over, so_far_over}
use Rattle.opened_view.specs.Steps.{starting}
use Rattle.stack_answers.specs.Answers as stack
use Rattle.stack_answers.specs.Opening as stack_opening
use Rattle.stack_law.specs.Promises.{sources_stacked}
use Rattle.stack_law.proofs.OpenedLemmas.{all_exempt, names_some}
use Rattle.stack_law.proofs.WithinLemmas.{stack_within, stack_so_far_within}
use Rattle.feed_answers.specs.Answers as feed
use Rattle.feed_law.specs.Promises.{sources_fed}
use Rattle.feed_law.proofs.WithinLemmas.{feed_over, feed_so_far_over}
use Rattle.ss_top.specs.Commands.{Asked, Check, Show, Maintain, Verify, Apply, Stack, Feed, Load, Other, HasViews}
use Rattle.ss_top.specs.Runs.{Definitions, Request, course_by, course_of}
use Rattle.ss_top.specs.Promises.{KeepsBut, views_exempt, exempt_by}
use Rattle.ss_top.proofs.CourseLemmas.{keeps_done, keeps_ended}

-- those of a command with one view
module _ (t : Tree) where
  abbrev Viewed : DefinitionOrRefusal → List Effect → Type 0
  Viewed d es = AllWithin (view_exempt d ++ []) es

  check_within : (d : DefinitionOrRefusal) → Viewed d (checked d).effects
  check_within (Err fields) = (tt, tt)
  check_within (Ok a) = (tt, tt)

  show_within : (d : DefinitionOrRefusal) → Viewed d (ending done_at_once (opening t d)).effects
  show_within (Err fields) = (tt, tt)
  show_within (Ok a) = show_over t a (loaded_or_refused t)

  verify_within : (d : DefinitionOrRefusal) → Viewed d (verified t d).effects
  verify_within (Err fields) = (tt, tt)
  verify_within (Ok a) = verify_over t a (loaded_or_refused t)

  module _ (lines : List (List ℕ)) where
    abbrev Kept : DefinitionOrRefusal → List Effect → Type 0
    Kept d es = AllWithin (view_exempt d ++ sources_exempt (opening t d) lines) es

    maintain_within : (d : DefinitionOrRefusal) → Kept d ((by_lines step finish (opening t d)).whole lines).effects
    maintain_within (Err fields) = (tt, tt)
    maintain_within (Ok a) = maintain_over t a lines (loaded_or_refused t)

    maintain_so_far : (d : DefinitionOrRefusal) (gs : List Effect) → (by_lines step finish (opening t d)).so_far lines ≡ Some gs → Kept d gs
    maintain_so_far (Err fields) gs e = absurd (cc e)
    maintain_so_far (Ok a) gs e = so_far_over t a lines (loaded_or_refused t) gs e

    abbrev Fed : DefinitionOrRefusal → List Effect → Type 0
    Fed d es = AllWithin (view_exempt d ++ sources_fed (opening t d) lines) es

    feed_within : (d : DefinitionOrRefusal) → Fed d ((by_lines feed.step feed.finish (starting feed.at_first (opening t d))).whole lines).effects
    feed_within (Err fields) = (tt, tt)
    feed_within (Ok a) = feed_over t a lines (loaded_or_refused t)

    feed_so_far : (d : DefinitionOrRefusal) (gs : List Effect) → (by_lines feed.step feed.finish (starting feed.at_first (opening t d))).so_far lines ≡ Some gs → Fed d gs
    feed_so_far (Err fields) gs e = absurd (cc e)
    feed_so_far (Ok a) gs e = feed_so_far_over t a lines (loaded_or_refused t) gs e

    apply_within : (d : DefinitionOrRefusal) → Viewed d ((by_lines applying.step applying.finish (apply_opening t d)).whole lines).effects
    apply_within (Err fields) = (tt, tt)
    apply_within (Ok a) = apply_over t a lines (held (shape_of a.query) t (folder_of a))

    apply_taken : (d : DefinitionOrRefusal) (gs : List Effect) → (by_lines applying.step applying.finish (apply_opening t d)).so_far lines ≡ Some gs → Viewed d gs
    apply_taken (Err fields) gs e = absurd (cc e)
    apply_taken (Ok a) gs e = apply_so_far t a lines (held (shape_of a.query) t (folder_of a)) gs e

-- the folders of views over one another
pub same_exempt : (names : List Text) (ds : Definitions) → all_exempt (map ds names) ≡ views_exempt names ds
same_exempt [] ds = refl
same_exempt (name ∷ names) ds = ap (λ (xs : List Exempt). view_exempt (ds name) ++ xs) (same_exempt names ds)

module _ (t : Tree) (lines : List (List ℕ)) (names : List Text) (ds : Definitions) (some : HasViews (Stack names)) where
  abbrev Stacked : List Effect → Type 0
  Stacked es = AllWithin (views_exempt names ds ++ sources_stacked (stack_opening.opening t (map ds names)) lines) es

  exempt_so : (es : List Effect) → AllWithin (all_exempt (map ds names) ++ sources_stacked (stack_opening.opening t (map ds names)) lines) es → Stacked es
  exempt_so es h = subst (λ (xs : List Exempt). AllWithin (xs ++ sources_stacked (stack_opening.opening t (map ds names)) lines) es) (same_exempt names ds) h

  stacked_within : Stacked ((by_lines stack.step stack.finish (stack_opening.opening t (map ds names))).whole lines).effects
  stacked_within = exempt_so _ (stack_within t lines (map ds names) (names_some names ds some))

  stacked_so_far : (gs : List Effect) → (by_lines stack.step stack.finish (stack_opening.opening t (map ds names))).so_far lines ≡ Some gs → Stacked gs
  stacked_so_far gs e = exempt_so gs (stack_so_far_within t lines (map ds names) (names_some names ds some) gs e)

course_within : (a : Asked) (t : Tree) (ds : Definitions) (lines : List (List ℕ)) → HasViews a → AllWithin (exempt_by a t ds lines) ((course_by a t ds).whole lines).effects
course_within (Check name) t ds lines some = check_within t (ds name)
course_within (Show name) t ds lines some = show_within t (ds name)
course_within (Maintain name) t ds lines some = maintain_within t lines (ds name)
course_within (Verify name) t ds lines some = verify_within t (ds name)
course_within (Apply name) t ds lines some = apply_within t lines (ds name)
course_within (Stack names) t ds lines some = stacked_within t lines names ds some
course_within (Feed name) t ds lines some = feed_within t lines (ds name)
course_within (Load changes seed) t ds lines some = (tt, tt)
course_within Other t ds lines some = (tt, tt)

so_far_within : (a : Asked) (t : Tree) (ds : Definitions) (lines : List (List ℕ)) → HasViews a → (gs : List Effect) → (course_by a t ds).so_far lines ≡ Some gs → AllWithin (exempt_by a t ds lines) gs
so_far_within (Check name) t ds lines some gs e = absurd (cc e)
so_far_within (Show name) t ds lines some gs e = absurd (cc e)
so_far_within (Maintain name) t ds lines some gs e = maintain_so_far t lines (ds name) gs e
so_far_within (Verify name) t ds lines some gs e = absurd (cc e)
so_far_within (Apply name) t ds lines some gs e = apply_taken t lines (ds name) gs e
so_far_within (Stack names) t ds lines some gs e = stacked_so_far t lines names ds some gs e
so_far_within (Feed name) t ds lines some gs e = feed_so_far t lines (ds name) gs e
so_far_within (Load changes seed) t ds lines some gs e = absurd (cc e)
so_far_within Other t ds lines some gs e = absurd (cc e)

-- a run leaves all others as they were
module _ (q : Request) (old new : World) (told : old.store.tree ≡ Some q.tree) (some : HasViews q.asked) where
  abbrev exempt : List (List ℕ) → List Exempt
  exempt lines = exempt_by q.asked q.tree q.definitions lines

  within : (lines : List (List ℕ)) → AllWithin (exempt lines) ((course_of q).whole lines).effects
  within lines = course_within q.asked q.tree q.definitions lines some

  within_so_far : (lines : List (List ℕ)) (gs : List Effect) → (course_of q).so_far lines ≡ Some gs → AllWithin (exempt lines) gs
  within_so_far lines gs e = so_far_within q.asked q.tree q.definitions lines some gs e

  abbrev KeepsOver : List (List ℕ) → Type 0
  KeepsOver lines = Keeps (exempt lines) q.tree new

  done : (lines : List (List ℕ)) (es : List Effect) → AllWithin (exempt lines) es → contents new ≡ performed es (contents old) → KeepsOver lines
  done lines es h = keeps_done (exempt lines) q.tree old new told es h

  ended : (lines : List (List ℕ)) (r : Result Verdict Halt) → EndedOver ((course_of q).whole lines) old new r → KeepsOver lines
  ended lines r h = keeps_ended (exempt lines) q.tree old new told ((course_of q).whole lines) r (within lines) h

  -- where its input is not told, some lines were answered
  did_some : (r : Result Verdict Halt) → RanSome (course_of q) old new r → KeepsBut q None new
  did_some r h = record { lines = h.lines; first = λ bytes none. absurd (cc none); kept = ended h.lines r h.ran }

  -- where it is, its first lines
  module _ (bytes : List ℕ) (rest : Option (List ℕ)) where
    all_lines : (r : Result Verdict Halt) → EndedOver ((course_of q).whole (lines_of bytes)) old new r → KeepsBut q (Some bytes) new
    all_lines r h = record { lines = lines_of bytes; first = λ bs e. ([], ap lines_of (sym (same_some bytes bs e)) ∙ sym (append-nil (lines_of bytes))); kept = ended (lines_of bytes) r h }

    gave_out : GaveOut (course_of q) bytes rest old new → KeepsBut q (Some bytes) new
    gave_out g =
        let lines : List (List ℕ) = whole_lines g.taken in
        let front = taken_lines bytes g.taken g.left g.split in
        record { lines = lines; first = λ bs e. (front.0, ap lines_of (sym (same_some bytes bs e)) ∙ front.1); kept = done lines g.effects (within_so_far lines g.effects g.meant) g.done }

    held_up : HeldUp (course_of q) bytes old new → KeepsBut q (Some bytes) new
    held_up g = record { lines = g.answered; first = λ bs e. (g.line ∷ g.more, ap lines_of (sym (same_some bytes bs e)) ∙ g.are); kept = done g.answered g.effects (within_so_far g.answered g.effects g.meant) g.done }

    did_told : (r : Result Verdict Halt) → RanBy (course_of q) bytes rest old new r → KeepsBut q (Some bytes) new
    did_told (Ok v) h = all_lines (Ok v) h
    did_told (Err halt.InputFault) h = gave_out h
    did_told (Err halt.TooLong) h = gave_out h.0
    did_told (Err halt.DiskFault) h = held_up h
    did_told (Err (halt.Stopped e)) h = all_lines (Err (halt.Stopped e)) h

pub did_keep : (q : Request) (input rest : Option (List ℕ)) (old new : World) (r : Result Verdict Halt) → old.store.tree ≡ Some q.tree → HasViews q.asked → RanSome (course_of q) old new r
    → ((bytes : List ℕ) → input ≡ Some bytes → RanBy (course_of q) bytes rest old new r) → KeepsBut q input new
did_keep q None rest old new r told views some ran = did_some q old new told views r some
did_keep q (Some bytes) rest old new r told views some ran = did_told q old new told views bytes rest r (ran bytes refl)
