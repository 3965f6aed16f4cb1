-- From what a command did to what is promised of a whole run.
use Rattle.std.proofs.Common.{◌≡◌, ◌≢◌, ℕ, true, false, List, [], Option, Some, refl, sym, ap, ◌∙◌, subst}
use Rattle.std.specs.Prelude.{Result, Err, IfOk, IfErr}
use Rattle.ss_text.specs.Texts.{Text}
use Rattle.tab_lines.specs.Lines.{lines_of}
use Rattle.outside.specs.Tree.{Tree}
use Rattle.outside.specs.Whole.{IsWhole}
use Rattle.outside.specs.Effects.{World}
use Rattle.course.specs.declared.status.Verdict.{Verdict}
use Rattle.course.specs.declared.status.Halt.{Halt}
use Rattle.course.specs.Answering.{BlamesRun, is_too_long}
use Rattle.std.proofs.lemmas.Bool.{false≢true}
use Rattle.course.specs.declared.status.Halt.TheVariants as halt
use Rattle.course.specs.declared.exit.Status.TheVariants as status
use Rattle.course.specs.Course.{Course, Did, RanBy, RanSome, Took, TookEnough, status_of}
use Rattle.course.specs.Idle.{IdleRun}
use Rattle.course.proofs.RunLemmas.{by_status, some_by_status, finishes, by_fault, by_end}
use Rattle.plain_commands.proofs.ShownLemmas.{did_show}
use Rattle.plain_commands.proofs.CheckedLemmas.{did_check, did_verify}
use Rattle.plain_commands.proofs.LoadedLemmas.{did_load}
use Rattle.plain_commands.proofs.AppliedLemmas.{did_apply}
use Rattle.plain_commands.proofs.RefusedLemmas.{did_differ}
use Rattle.plain_commands.proofs.StopLemmas.{did_nothing}
use Rattle.upkeep_law.proofs.MaintainedLemmas.{did_maintain, did_cut_off}
use Rattle.stack_law.proofs.StackedLemmas.{did_stack, did_stack_cut_off}
use Rattle.feed_law.proofs.FedLemmas.{did_feed, did_feed_cut_off}
use Rattle.ss_top.specs.Commands.{Asked, Check, Show, Maintain, Verify, Apply, Stack, Feed, Load, Other, HasViews, asked_of, names_of, uses_store, reads_input, can_end}
use Rattle.ss_top.specs.Runs.{Definitions, AreDefined, Request, Asks, OverEach, StepsOf, Told, of_view, of_views, course_by, course_of}
use Rattle.ss_top.specs.Clauses.{DoesCourse, IsComplete, AnswersSome, Checks, Shows, Maintains, StopsAtSync, Stacks, StackStopsAtSync, Feeds, FeedStopsAtSync, Verifies, TellsDifference, Applies, AppliesNothing, Loads, KeepsAll, KeepsOthers, LeavesBetween, TakesLittle, TakesEnough, TakesSteps}
use Rattle.ss_top.proofs.WordLemmas.{asked_views}
use Rattle.ss_top.proofs.RefusedLemmas.{did_refuse}
use Rattle.ss_top.proofs.KeepLemmas.{did_keep}
use Rattle.ss_top.proofs.LeaveLemmas.{did_leave}

-- no command is held up by a disk
unheld : (a : Asked) → can_end a status.DiskFault ≡ false
unheld (Check name) = refl
unheld (Show name) = refl
unheld (Maintain name) = refl
unheld (Verify name) = refl
unheld (Apply name) = refl
unheld (Stack names) = refl
unheld (Feed name) = refl
unheld (Load changes seed) = refl
unheld Other = refl

pub not_held_up : (a : Asked) (r : Result Verdict Halt) → can_end a (status_of r) ≡ true → r ≢ Err halt.DiskFault
not_held_up a r can is = false≢true (sym (unheld a) ∙ ap (λ (x : Result Verdict Halt). can_end a (status_of x)) (sym is) ∙ can)

-- what the words ask of a store
module _ (words : List Text) (old : World) where
  -- what is so over each tree and all definitions is so of what they ask
  asking : (P : Asked → Tree → Definitions → Type 0) → OverEach (asked_of words) old.store.tree (P (asked_of words)) → (q : Request) → Asks words old q → P q.asked q.tree q.definitions
  asking P each q asks =
      subst (λ (a : Asked). Told (uses_store a) old.store.tree q.tree → AreDefined (names_of a) q.tree q.definitions → P a q.tree q.definitions) (sym asks.is) (each q.tree q.definitions) asks.told asks.defined

  -- where they ask for views over one another, these are some
  asked_some : (q : Request) → Asks words old q → HasViews q.asked
  asked_some q asks = subst HasViews (sym asks.is) (asked_views words)

  -- what a run did
  module _ (new : World) (r : Result Verdict Halt) where
    abbrev RanSomehow : Type 0
    RanSomehow = OverEach (asked_of words) old.store.tree (λ t ds. RanSome (course_by (asked_of words) t ds) old new r)

    ran_some : RanSomehow → (q : Request) → Asks words old q → RanSome (course_of q) old new r
    ran_some some = asking (λ a t ds. RanSome (course_by a t ds) old new r) some

    pub keeps_all : RanSomehow → KeepsAll words old new (status_of r)
    keeps_all some q asks refused = did_refuse old new r refused q.asked q.tree q.definitions asks.told (ran_some some q asks)

    pub answers_some : RanSomehow → AnswersSome words old new (status_of r)
    answers_some some q asks = some_by_status (course_of q) old new r (ran_some some q asks)

    -- over an input, of which this is left
    module _ (input rest : Option (List ℕ)) where
      abbrev Ran : Type 0
      Ran = OverEach (asked_of words) old.store.tree (λ t ds. (bytes : List ℕ) → Told (reads_input (asked_of words)) input bytes → RanBy (course_by (asked_of words) t ds) bytes rest old new r)

      ran_told : Ran → (q : Request) → Asks words old q → (bytes : List ℕ) → Told (reads_input q.asked) input bytes → RanBy (course_of q) bytes rest old new r
      ran_told ran = asking (λ a t ds. (bytes : List ℕ) → Told (reads_input a) input bytes → RanBy (course_by a t ds) bytes rest old new r) ran

      pub keeps_others : RanSomehow → Ran → KeepsOthers words input old new
      keeps_others some ran q asks told = did_keep q input rest old new r told (asked_some q asks) (ran_some some q asks) (λ bytes given. ran_told ran q asks bytes (λ _. given))

      pub leaves_between : RanSomehow → Ran → LeavesBetween words input old new
      leaves_between some ran q asks told = did_leave q input rest old new r told (ran_some some q asks) (λ bytes given. ran_told ran q asks bytes (λ _. given))

      module _ (i j : ℕ) (ran : Ran) (blames : BlamesRun i j old new r) (idle : IdleRun r old new) where
        pub does_course : DoesCourse words input rest old new (status_of r)
        does_course q bytes asks read = by_status (course_of q) bytes rest old new i j r (ran_told ran q asks bytes read) blames idle

        pub is_complete : can_end (asked_of words) (status_of r) ≡ true → IsComplete words input i j old new (status_of r)
        is_complete can q bytes asks read none few some = finishes (course_of q) bytes rest old new i j r (ran_told ran q asks bytes read) blames idle (not_held_up (asked_of words) r can) none few some

        pub checks : Checks words old new (status_of r)
        checks name t d asks done = did_check name t d rest old new (status_of r) done (does_course (of_view Check name t d) [] asks (λ no. absurd (cc)))

        pub shows : Shows words old new (status_of r)
        shows name t d asks done = did_show name t d rest old new (status_of r) (asks.told refl) done (does_course (of_view Show name t d) [] asks (λ no. absurd (cc)))

        -- a tree that is told has no file outside a folder
        module _ (whole : (t : Tree) → old.store.tree ≡ Some t → IsWhole t) where
          pub maintains : Maintains words input old new (status_of r)
          maintains name t bytes d asks given done =
              did_maintain name t bytes d rest old new (status_of r) asks.defined.0 (asks.told refl) (whole t (asks.told refl)) done (does_course (of_view Maintain name t d) bytes asks (λ _. given))

          pub stops_at_sync : StopsAtSync words input rest old new (status_of r)
          stops_at_sync name t bytes d asks given gave =
              did_cut_off name t bytes d rest old new (status_of r) asks.defined.0 (asks.told refl) (whole t (asks.told refl)) gave (does_course (of_view Maintain name t d) bytes asks (λ _. given))

          pub stacks : Stacks words input old new (status_of r)
          stacks names t bytes ds asks given done =
              did_stack names t ds bytes rest old new (status_of r)
              (record { some = asked_some (of_views names t ds) asks; defined = asks.defined; told = asks.told refl; whole = whole t (asks.told refl); did = does_course (of_views names t ds) bytes asks (λ _. given) }) done

          pub stack_stops_at_sync : StackStopsAtSync words input rest old new (status_of r)
          stack_stops_at_sync names t bytes ds asks given gave =
              did_stack_cut_off names t ds bytes rest old new (status_of r)
              (record { some = asked_some (of_views names t ds) asks; defined = asks.defined; told = asks.told refl; whole = whole t (asks.told refl); did = does_course (of_views names t ds) bytes asks (λ _. given) }) gave

          pub feeds : Feeds words input old new (status_of r)
          feeds name t bytes d asks given done =
              did_feed name t bytes d rest old new (status_of r) asks.defined.0 (asks.told refl) (whole t (asks.told refl)) done (does_course (of_view Feed name t d) bytes asks (λ _. given))

          pub feed_stops_at_sync : FeedStopsAtSync words input rest old new (status_of r)
          feed_stops_at_sync name t bytes d asks given gave =
              did_feed_cut_off name t bytes d rest old new (status_of r) asks.defined.0 (asks.told refl) (whole t (asks.told refl)) gave (does_course (of_view Feed name t d) bytes asks (λ _. given))

        pub verifies : Verifies words old new (status_of r)
        verifies name t d asks done = did_verify name t d rest old new (status_of r) done (does_course (of_view Verify name t d) [] asks (λ no. absurd (cc)))

        pub prints_difference : TellsDifference words old (status_of r)
        prints_difference name t d asks refused = did_differ name t d rest old new (status_of r) refused (does_course (of_view Verify name t d) [] asks (λ no. absurd (cc)))

        pub applies : Applies words input old new (status_of r)
        applies name t bytes d asks given done = did_apply name t bytes d rest old new (status_of r) (asks.told refl) done (does_course (of_view Apply name t d) bytes asks (λ _. given))

        pub applies_nothing : AppliesNothing words input old new (status_of r)
        applies_nothing name t bytes d asks given unread = did_nothing name t d bytes rest old new (status_of r) unread (does_course (of_view Apply name t d) bytes asks (λ _. given))

        -- `load` is by its numbers alone
        abbrev Loading : Asked → Request → Type 0
        Loading a q = Told (reads_input a) input [] → Did (course_by a q.tree q.definitions) [] rest old new (status_of r)

        pub loads : Loads words old new (status_of r)
        loads q changes seed asks is done =
            did_load changes seed q.tree (Err []) rest old new (status_of r) done (subst (λ (a : Asked). Loading a q) is (does_course q [] asks) (λ no. absurd (cc)))

  -- what it took of its input
  module _ (r : Result Verdict Halt) (input rest last : Option (List ℕ)) where
    abbrev Taken : (Course → List ℕ → Type 0) → Asked → Tree → Definitions → Type 0
    Taken P a t ds = (bytes : List ℕ) → reads_input a ≡ true → input ≡ Some bytes → P (course_by a t ds) bytes

    pub takes_little : (new : World) → OverEach (asked_of words) old.store.tree (Taken (λ c bytes. IfErr r (λ h. Took c bytes rest last old new (is_too_long h))) (asked_of words)) → TakesLittle words input rest last old new (status_of r)
    takes_little new taken q bytes asks reads given fault =
        by_fault r (Took (course_of q) bytes rest last old new) (asking (Taken (λ c bytes. IfErr r (λ h. Took c bytes rest last old new (is_too_long h)))) taken q asks bytes reads given) fault

    pub takes_enough : OverEach (asked_of words) old.store.tree (Taken (λ c bytes. IfOk r (λ v. TookEnough c bytes rest last)) (asked_of words)) → TakesEnough words input rest last old (status_of r)
    takes_enough taken q bytes asks reads given ended =
        by_end r (TookEnough (course_of q) bytes rest last) (asking (Taken (λ c bytes. IfOk r (λ v. TookEnough c bytes rest last))) taken q asks bytes reads given) ended

  -- a run whose course reads no input
  pub alone_by : (P : Type 0) → OverEach (asked_of words) old.store.tree (λ t ds. (course_by (asked_of words) t ds).reads ≡ false → P) → (q : Request) → Asks words old q → (course_of q).reads ≡ false → P
  alone_by P alone = asking (λ a t ds. (course_by a t ds).reads ≡ false → P) alone

  -- how many steps it took
  module _ (input : Option (List ℕ)) (i j : ℕ) where
    abbrev Stepped : Asked → Tree → Definitions → Type 0
    Stepped a t ds = (bytes : List ℕ) → Told (reads_input a) input bytes → StepsOf a t ds (lines_of bytes) i j

    pub takes_steps : OverEach (asked_of words) old.store.tree (Stepped (asked_of words)) → TakesSteps words input old i j
    takes_steps within q bytes asks read = asking Stepped within q asks bytes read
