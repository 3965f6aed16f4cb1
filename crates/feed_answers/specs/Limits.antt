-- At most how many steps an opened view takes for a line of its feeds.
use Rattle.std.specs.Prelude.{ℕ, List, Option, Some, Ok, if◌then◌else◌}
use Rattle.view_session.specs.Limits.{limit_of}
use Rattle.feed_core.specs.Arrivals.{arrivals_of, is_fresh}
use Rattle.feed_core.specs.declared.arrival.Arrival.{Arrival}
use Rattle.feed_answers.specs.Lines.{Said, said_by_line}
use Rattle.feed_answers.specs.declared.line.FeedLine.TheVariants.{Arrives}
use Rattle.feed_answers.specs.declared.view.FeedView.{FeedView}

-- of the arrivals only the next of a source takes steps, as its change does
abbrev pub limit_of_arrival : FeedView → Arrival → Option ℕ
limit_of_arrival f a = if is_fresh (arrivals_of f.feeds) a then limit_of f.view.session a.change else Some 0

abbrev pub by_line : FeedView → Said → Option ℕ
by_line f (Ok (Arrives a)) = limit_of_arrival f a
by_line f said = Some 0

abbrev pub limit : FeedView → List ℕ → Option ℕ
limit f line = by_line f (said_by_line line)
