-- What the steps of a view with feeds answer, against the definitions.
use Rattle.std.specs.Prelude.{◌≡◌, None, Some}
use Rattle.apply_law.specs.Verdicts.{Makes, tables_in}
use Rattle.view_session.specs.Session.{proposing, accepted}
use Rattle.view_session.specs.Verdicts.{standing_of, verdict_of}
use Rattle.feed_core.specs.Arrivals.{handled_at, answer_to, handled_after, taken_after}
use Rattle.feed_core.specs.Replies.{reply_to}
use Rattle.feed_core.specs.declared.arrival.Arrival.{Arrival}
use Rattle.feed_core.specs.declared.outcome.Outcome.{Outcome}
use Rattle.feed_core.specs.declared.outcome.Outcome.TheVariants.{Fresh}
use Rattle.feed_answers.specs.declared.view.FeedView.{FeedView}

-- an arrival was taken with an answer: what the view and its feeds were before and are behind it
pub record TakesArrival (f : FeedView) (a : Arrival) (n : FeedView) (x : Outcome) : Type 0 where
  pub idle : f.view.session.proposed ≡ None
  pub stands : verdict_of f.view.session.query f.view.session.catalogue ≡ Makes (tables_in (verdict_of f.view.session.query f.view.session.catalogue))
  pub answer : x ≡ answer_to f.feeds a
  pub feeds : n.feeds ≡ handled_after (reply_to (standing_of f.view.session) a.change) f.feeds a
  pub found : x ≡ Fresh → handled_at a.source a.number n.feeds ≡ Some (record { arrival = a; reply = reply_to (standing_of f.view.session) a.change })
  pub view : n.view ≡ record f.view { session = taken_after proposing accepted (standing_of f.view.session) f.view.session f.feeds a }
