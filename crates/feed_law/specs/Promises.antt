-- What a user relies on of a view with numbered feeds.
use Rattle.std.specs.Prelude.{◌≡◌, ℕ, true, List, [], ◌∷◌, ◌++◌, map, flat_map, Option, Some, Ok, Err}
use Rattle.tab_lines.specs.Lines.{whole_lines}
use Rattle.outside.specs.Tree.{Tree}
use Rattle.outside.specs.Effects.{Effect, World}
use Rattle.schema_model.specs.Changes.{after_all}
use Rattle.schema_model.specs.declared.change.Change.{Change}
use Rattle.source_law.specs.Synced.{Synced, unsaved, synced}
use Rattle.view_session.specs.Verdicts.{standing_of}
use Rattle.course.specs.Answering.{Reply, Continues, Finishes, follow}
use Rattle.ss_print.specs.Fields.{early_fields, other_change_fields}
use Rattle.ss_print.specs.Printing.{refuses, prints_reply, prints_script}
use Rattle.course.specs.declared.exit.Status.{Status}
use Rattle.course.specs.Course.{verdict_status}
use Rattle.view_stages.specs.Open.{OpenValue}
use Rattle.view_stages.specs.Places.{Exempt, sources_of}
use Rattle.view_stages.specs.Stages.{DefinitionOrRefusal}
use Rattle.view_stages.specs.Opened.{IsOpened, view_at_first}
use Rattle.opened_view.specs.Answers.{Answer, syncing}
use Rattle.upkeep_law.specs.Lists.{effects_by, view_after, last_synced}
use Rattle.upkeep_law.specs.Promises.{IsUpheld}
use Rattle.feed_core.specs.Arrivals.{arrivals_of, handled_at, same_change, answer_to}
use Rattle.feed_core.specs.Numbered.{AreNumbered}
use Rattle.feed_core.specs.Replies.{ReplyValue}
use Rattle.feed_core.specs.Turns.{in_turn, changes_of, replies_to, accepted_in, IsOther}
use Rattle.feed_core.specs.declared.arrival.Arrival.{Arrival}
use Rattle.feed_core.specs.Handled.{Handled}
use Rattle.feed_core.specs.declared.outcome.Outcome.{Outcome}
use Rattle.feed_core.specs.declared.outcome.Outcome.TheVariants.{Fresh, Kept, Early, OtherChange}
use Rattle.feed_answers.specs.Lines.{Said, said_by_line}
use Rattle.feed_answers.specs.declared.line.FeedLine.TheVariants.{Arrives}
use Rattle.feed_answers.specs.declared.view.FeedView.{FeedView}
use Rattle.feed_answers.specs.Answers.{step, finish, at_first, answer, fed, answers_to}
use Rattle.feed_answers.specs.Fields.{reply_refused_fields}

-- the arrivals that lines say, in order
abbrev pub arrivals_by : Said → List Arrival
arrivals_by (Ok (Arrives a)) = a ∷ []
arrivals_by said = []

abbrev pub arrivals_in : List (List ℕ) → List Arrival
arrivals_in lines = flat_map (λ line. arrivals_by (said_by_line line)) lines

-- what is printed of a change that was handled: its source and number, and then its script or its refusal
abbrev pub prints_of : Change → ReplyValue → Effect
prints_of g (Ok lines) = prints_script lines
prints_of g (Err e) = refuses (reply_refused_fields g e)

abbrev pub reply_effects : Handled → List Effect
reply_effects h = prints_reply h.arrival.source h.arrival.number ∷ prints_of h.arrival.change h.reply ∷ []

-- what is printed to an arrival is the one reply that is kept in the end under its source and number, whose change is the same
pub record GetsReply (last : List Handled) (a : Arrival) (es : List Effect) : Type 0 where
  pub kept : Handled
  pub there : handled_at a.source a.number last ≡ Some kept
  pub change : same_change a.change kept.arrival.change ≡ true
  pub printed : es ≡ reply_effects kept

-- it is that reply, or a refusal of an arrival that is too early or under whose number another change is kept
abbrev pub IsTold : Outcome → List Handled → Arrival → List Effect → Type 0
IsTold Fresh last a es = GetsReply last a es
IsTold Kept last a es = GetsReply last a es
IsTold (Early want) last a es = es ≡ refuses (early_fields a.source want) ∷ []
IsTold OtherChange last a es = IsOther last a × (es ≡ refuses (other_change_fields a.source a.number) ∷ [])

abbrev pub IsToldBy : Said → FeedView → List Handled → List Effect → Type 0
IsToldBy (Ok (Arrives a)) f last es = IsTold (answer_to f.feeds a) last a es
IsToldBy said f last es = Unit {0}

-- so is each line
abbrev pub EachIsTold : List Handled → FeedView → List (List ℕ) → Type 0
EachIsTold last f [] = Unit {0}
EachIsTold last f (line ∷ lines) = IsToldBy (said_by_line line) f last (answer f line).effects × EachIsTold last (fed f line) lines

-- sources sent the arrivals of these lines: just those were handled that came in turn, of each source those numbered from 1, each once and in order; their replies are what their changes give one after another; the accepted ones make the catalogue; and each arrival that was handled, or that comes again, gets the one reply that is kept
pub record AreFed (first : FeedView) (lines : List (List ℕ)) (last : FeedView) : Type 0 where
  pub turn : arrivals_of last.feeds ≡ in_turn [] (arrivals_in lines)
  pub numbered : AreNumbered (arrivals_of last.feeds)
  pub replies : map (λ (h : Handled). h.reply) last.feeds ≡ replies_to (standing_of first.view.session) (changes_of (arrivals_of last.feeds))
  pub catalogue : last.view.session.catalogue ≡ after_all first.view.session.catalogue (accepted_in last.feeds)
  pub told : EachIsTold last.feeds first lines

-- a view that was opened with feeds; the view behind the answers to lines, and these with the sync at their end
abbrev pub fed_at_first : {d : DefinitionOrRefusal} {t : Tree} → IsOpened d t → FeedView
fed_at_first o = at_first (view_at_first o)

abbrev pub view_behind : FeedView → List (List ℕ) → OpenValue
view_behind f lines = view_after f.view (answers_to f lines)

abbrev pub all_answers : FeedView → List (List ℕ) → List Answer
all_answers f lines = answers_to f lines ++ syncing (view_behind f lines) ∷ []

-- what was saved by the syncs among the answers to these lines, and by that at their end
abbrev pub saved_behind : FeedView → List (List ℕ) → Synced
saved_behind f lines = last_synced true f.view (unsaved f.view.session.catalogue) (answers_to f lines)

abbrev pub saved_at_end : FeedView → List (List ℕ) → Synced
saved_at_end f lines = synced (view_behind f lines).session (saved_behind f lines)

-- these sources may be changed, in these lines behind an opening
abbrev pub sources_fed : Reply OpenValue → List (List ℕ) → List Exempt
sources_fed (Continues es o) lines = sources_of (saved_at_end (at_first o) lines)
sources_fed (Finishes es v) lines = []

-- a view was kept up to date with its feeds: each line of the input was answered in turn, and so was its end; the view folder shows the catalogue that the accepted changes make, and the sources hold it
pub record IsFed (d : DefinitionOrRefusal) (t : Tree) (lines : List (List ℕ)) (old new : World) (s : Status) : Type 0 where
  pub opened : IsOpened d t
  pub last : FeedView
  pub answered : follow step lines (Continues [] (fed_at_first opened)) ≡ Continues (effects_by (answers_to (fed_at_first opened) lines)) last
  pub handled : AreFed (fed_at_first opened) lines last
  pub upheld : IsUpheld t opened.accepted.query opened.catalogue (all_answers (fed_at_first opened) lines) (after_all opened.catalogue (accepted_in last.feeds)) (saved_at_end (fed_at_first opened) lines) old new
  pub status : s ≡ verdict_status (finish last).status

-- the input gave out: each whole line of the bytes taken was answered in turn, and nothing else was done; the view folder shows the catalogue at the last sync, and the sources hold it
pub record IsFedCutOff (d : DefinitionOrRefusal) (t : Tree) (bytes : List ℕ) (rest : Option (List ℕ)) (old new : World) : Type 0 where
  pub opened : IsOpened d t
  pub taken : List ℕ
  pub left : List ℕ
  pub split : bytes ≡ taken ++ left
  pub remains : rest ≡ Some left
  pub last : FeedView
  pub answered : follow step (whole_lines taken) (Continues [] (fed_at_first opened)) ≡ Continues (effects_by (answers_to (fed_at_first opened) (whole_lines taken))) last
  pub handled : AreFed (fed_at_first opened) (whole_lines taken) last
  pub upheld : IsUpheld t opened.accepted.query opened.catalogue (answers_to (fed_at_first opened) (whole_lines taken)) (saved_behind (fed_at_first opened) (whole_lines taken)).catalogue (saved_behind (fed_at_first opened) (whole_lines taken)) old new
