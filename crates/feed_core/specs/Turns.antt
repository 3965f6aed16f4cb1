-- Whole runs: which of many arrivals are handled, in what order, and what each is told.
use Rattle.std.specs.Prelude.{◌≡◌, true, false, List, [], ◌∷◌, ◌++◌, map, Option, Some, None, Ok, Err, if◌then◌else◌}
use Rattle.std.specs.Bool.{⊤}
use Rattle.schema_model.specs.declared.change.Change.{Change}
use Rattle.apply_law.specs.Standing.{Standing, made}
use Rattle.feed_core.specs.declared.arrival.Arrival.{Arrival}
use Rattle.feed_core.specs.Handled.{Handled}
use Rattle.feed_core.specs.declared.outcome.Outcome.{Outcome}
use Rattle.feed_core.specs.declared.outcome.Outcome.TheVariants as outcome
use Rattle.feed_core.specs.Replies.{ReplyValue, reply_to, standing_by}
use Rattle.feed_core.specs.Arrivals.{is_fresh, arrivals_of, handled_at, reply_at, same_change, answer_to, handled_after, standing_after}
use Rattle.feed_core.specs.Numbered.{AreNumbered}

-- what stands, and what was handled
pub record FeedState : Type 0 where
  pub standing : Standing
  pub handled : List Handled

-- before any arrival; after one; and after many
abbrev pub unfed : Standing → FeedState
unfed s = record { standing = s; handled = [] }

abbrev pub arrived : FeedState → Arrival → FeedState
arrived f a = record { standing = standing_after f.standing f.handled a; handled = handled_after (reply_to f.standing a.change) f.handled a }

abbrev pub fed : FeedState → List Arrival → FeedState
fed f [] = f
fed f (a ∷ sent) = fed (arrived f a) sent

-- what an arrival is told: the answer, and the reply that is then found under its source and number
pub record Told : Type 0 where
  pub answer : Outcome
  pub reply : Option ReplyValue

abbrev pub told : FeedState → Arrival → Told
told f a = record { answer = answer_to f.handled a; reply = reply_at a.source a.number (arrived f a).handled }

abbrev pub all_told : FeedState → List Arrival → List Told
all_told f [] = []
all_told f (a ∷ sent) = told f a ∷ all_told (arrived f a) sent

-- the arrivals that come in turn, behind those before: this knows nothing of replies
abbrev pub in_turn : List Arrival → List Arrival → List Arrival
in_turn before [] = before
in_turn before (a ∷ sent) = in_turn (if is_fresh before a then before ++ a ∷ [] else before) sent

abbrev pub changes_of : List Arrival → List Change
changes_of sent = map (λ (a : Arrival). a.change) sent

-- what is replied to changes that are made or refused one after another: this knows nothing of sources and numbers
abbrev pub replies_to : Standing → List Change → List ReplyValue
replies_to s [] = []
replies_to s (g ∷ gs) = reply_to s g ∷ replies_to (standing_by (reply_to s g) s g) gs

-- the changes that were accepted, in the order in which they were handled
abbrev pub if_accepted : ReplyValue → Change → List Change
if_accepted (Ok lines) g = g ∷ []
if_accepted (Err e) g = []

abbrev pub accepted_in : List Handled → List Change
accepted_in [] = []
accepted_in (h ∷ hs) = if_accepted h.reply h.arrival.change ++ accepted_in hs

-- a reply is the one that is kept in the end for the source and number of an arrival, whose change is the same
pub record IsKeptReply (last : List Handled) (a : Arrival) (r : Option ReplyValue) : Type 0 where
  pub kept : Handled
  pub there : handled_at a.source a.number last ≡ Some kept
  pub change : same_change a.change kept.arrival.change ≡ true
  pub reply : r ≡ Some kept.reply

-- another change is kept there
pub record IsOther (last : List Handled) (a : Arrival) : Type 0 where
  pub kept : Handled
  pub there : handled_at a.source a.number last ≡ Some kept
  pub change : same_change a.change kept.arrival.change ≡ false

-- what an arrival is told agrees with what was handled in the end
abbrev pub AgreesBy : Outcome → Option ReplyValue → List Handled → Arrival → Type 0
AgreesBy outcome.Fresh r last a = IsKeptReply last a r
AgreesBy outcome.Kept r last a = IsKeptReply last a r
AgreesBy (outcome.Early want) r last a = r ≡ None
AgreesBy outcome.OtherChange r last a = IsOther last a

abbrev pub EachAgrees : List Handled → List Arrival → List Told → Type 0
EachAgrees last (a ∷ sent) (t ∷ ts) = AgreesBy t.answer t.reply last a × EachAgrees last sent ts
EachAgrees last [] [] = ⊤
EachAgrees last sent ts = ⊥

-- over a list of arrivals: those in turn are handled, and of each source they are numbered from 1, each once and in order; what is replied is what these
-- changes give one after another, what stands is what the accepted ones make, and each arrival is told the one reply that is kept
pub record AreHandled (s : Standing) (sent : List Arrival) : Type 0 where
  pub turn : arrivals_of (fed (unfed s) sent).handled ≡ in_turn [] sent
  pub numbered : AreNumbered (in_turn [] sent)
  pub replies : map (λ (h : Handled). h.reply) (fed (unfed s) sent).handled ≡ replies_to s (changes_of (in_turn [] sent))
  pub stands : (fed (unfed s) sent).standing ≡ made s (accepted_in (fed (unfed s) sent).handled)
  pub told : EachAgrees (fed (unfed s) sent).handled sent (all_told (unfed s) sent)
