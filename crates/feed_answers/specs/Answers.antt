-- How an opened view answers the lines of its feeds.
use Rattle.std.specs.Prelude.{ℕ, List, [], ◌∷◌, Option, None, Some, Ok, Err, if◌then◌else◌}
use Rattle.ss_text.specs.Texts.{Text}
use Rattle.outside.specs.Effects.{Effect}
use Rattle.schema_model.specs.Refusals.{fault}
use Rattle.schema_model.specs.declared.change.Change.{Change}
use Rattle.view_session.specs.Session.{working}
use Rattle.view_session.specs.Verdicts.{standing_of}
use Rattle.course.specs.declared.status.Verdict.TheVariants as verdict
use Rattle.course.specs.Answering.{Reply, Continues, Ending}
use Rattle.ss_print.specs.Fields.{early_fields, other_change_fields}
use Rattle.ss_print.specs.Printing.{prints_reply, prints_script}
use Rattle.view_stages.specs.Open.{OpenValue}
use Rattle.view_stages.specs.Syncs.{sync_effects}
use Rattle.opened_view.specs.Answers.{Answer, Tells, by_fault, refusing, syncing}
use Rattle.feed_core.specs.Arrivals.{handled_at, answer_to, handled_after}
use Rattle.feed_core.specs.Replies.{ReplyValue, reply_to}
use Rattle.feed_core.specs.declared.arrival.Arrival.{Arrival}
use Rattle.feed_core.specs.Handled.{Handled}
use Rattle.feed_core.specs.declared.outcome.Outcome.{Outcome}
use Rattle.feed_core.specs.declared.outcome.Outcome.TheVariants.{Fresh, Kept, Early, OtherChange}
use Rattle.feed_answers.specs.Lines.{Said, said_by_line}
use Rattle.feed_answers.specs.declared.line.FeedLine.TheVariants.{Sync, Arrives}
use Rattle.feed_answers.specs.declared.view.FeedView.{FeedView}
use Rattle.feed_answers.specs.Fields.{line_fault_fields, reply_refused_fields}

-- an answer behind the source and number that it replies to
abbrev pub replying : Arrival → Answer → Answer
replying a x = record x { effects = prints_reply a.source a.number ∷ x.effects }

-- the next change of a source is made or refused, as one that a line of `maintain` says
abbrev pub handling : OpenValue → Arrival → Answer
handling o a = replying a (by_fault o a.change (fault (working o.session) a.change))

-- something is printed, and nothing else is done
abbrev pub printing : OpenValue → List Effect → Answer
printing o es = record { said = Tells; effects = es; view = o; writes = λ t. 0 }

-- what was replied to a change is told: a script is printed, or the line is refused
abbrev pub telling : OpenValue → Change → ReplyValue → Answer
telling o g (Ok lines) = printing o (prints_script lines ∷ [])
telling o g (Err e) = refusing o (reply_refused_fields g e)

-- a reply that is kept is told again
abbrev pub repeating : OpenValue → Option Handled → Answer
repeating o (Some h) = replying h.arrival (telling o h.arrival.change h.reply)
repeating o None = printing o []

-- an answer that is told, from what is kept then under a number of a source
abbrev pub told_by : FeedView → Text → ℕ → Outcome → Answer
told_by f source number Fresh = repeating f.view (handled_at source number f.feeds)
told_by f source number Kept = repeating f.view (handled_at source number f.feeds)
told_by f source number (Early want) = refusing f.view (early_fields source want)
told_by f source number OtherChange = refusing f.view (other_change_fields source number)

-- an arrival is handled, or it is told what is kept under its number, or why it is refused
abbrev pub by_turn : FeedView → Arrival → Outcome → Answer
by_turn f a Fresh = handling f.view a
by_turn f a x = told_by f a.source a.number x

-- a line says nothing, a sync or an arrival
abbrev pub by_line : FeedView → Said → Answer
by_line f (Err e) = refusing f.view (line_fault_fields e)
by_line f (Ok Sync) = syncing f.view
by_line f (Ok (Arrives a)) = by_turn f a (answer_to f.feeds a)

abbrev pub answer : FeedView → List ℕ → Answer
answer f line = by_line f (said_by_line line)

-- the changes that were handled up to a line
abbrev pub handled_by : FeedView → Said → List Handled
handled_by f (Ok (Arrives a)) = handled_after (reply_to (standing_of f.view.session) a.change) f.feeds a
handled_by f said = f.feeds

-- the view and its feeds behind what a line says, and behind the line
abbrev pub fed_by : FeedView → Said → FeedView
fed_by f said = record { view = (by_line f said).view; feeds = handled_by f said }

abbrev pub fed : FeedView → List ℕ → FeedView
fed f line = fed_by f (said_by_line line)

-- each line is answered, and the run goes on
abbrev pub step : FeedView → List ℕ → Reply FeedView
step f line = Continues (answer f line).effects (fed f line)

-- at the end of the input comes one more sync
abbrev pub finish : FeedView → Ending
finish f = record { effects = sync_effects f.view; status = if f.view.refused then verdict.SomeRefused else verdict.Done }

-- a view that was opened, to which nothing was sent yet
abbrev pub at_first : OpenValue → FeedView
at_first o = record { view = o; feeds = [] }

-- the answers to lines, in turn
abbrev pub answers_to : FeedView → List (List ℕ) → List Answer
answers_to f [] = []
answers_to f (line ∷ lines) = answer f line ∷ answers_to (fed f line) lines
