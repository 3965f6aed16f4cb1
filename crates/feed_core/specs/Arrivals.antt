-- Which arrivals are handled, and what is said of each.
use Rattle.std.specs.Prelude.{ℕ, suc, ◌==◌, ◌&&◌, Bool, List, [], ◌∷◌, ◌++◌, length, map, filter, find, Option, Some, None, option_map, if◌then◌else◌}
use Rattle.ss_text.specs.Texts.{Text, text_eq, row_eq}
use Rattle.schema_model.specs.Reading.{line_of}
use Rattle.schema_model.specs.declared.change.Change.{Change}
use Rattle.apply_law.specs.Standing.{Standing}
use Rattle.feed_core.specs.Replies.{ReplyValue, reply_to, standing_by, taken_by}
use Rattle.feed_core.specs.declared.arrival.Arrival.{Arrival}
use Rattle.feed_core.specs.Handled.{Handled}
use Rattle.feed_core.specs.declared.outcome.Outcome.{Outcome}
use Rattle.feed_core.specs.declared.outcome.Outcome.TheVariants as outcome

-- whether two changes are the same: so are their lines
abbrev pub same_change : Change → Change → Bool
same_change a b = row_eq (line_of a) (line_of b)

-- the arrivals of a source, and how many they are
abbrev pub of_source : Text → List Arrival → List Arrival
of_source source sent = filter (λ (a : Arrival). text_eq source a.source) sent

abbrev pub count_of : Text → List Arrival → ℕ
count_of source sent = length (of_source source sent)

-- an arrival is fresh where its number is one more than the number of fresh arrivals of its source before it
abbrev pub is_fresh : List Arrival → Arrival → Bool
is_fresh before a = a.number == suc (count_of a.source before)

-- what was handled, without its replies
abbrev pub arrivals_of : List Handled → List Arrival
arrivals_of hs = map (λ (h : Handled). h.arrival) hs

-- what was handled of a source under a number, and what was replied
abbrev pub handled_at : Text → ℕ → List Handled → Option Handled
handled_at source number hs = find (λ (h : Handled). text_eq source h.arrival.source && (number == h.arrival.number)) hs

abbrev pub reply_at : Text → ℕ → List Handled → Option ReplyValue
reply_at source number hs = option_map (λ (h : Handled). h.reply) (handled_at source number hs)

-- where something was handled under its source and number, an arrival is that one again, or it has another change
abbrev pub by_change : Change → Handled → Outcome
by_change g h = if same_change g h.arrival.change then outcome.Kept else outcome.OtherChange

-- and where nothing was, it comes too early: then this number is wanted
abbrev pub by_handled : Change → ℕ → Option Handled → Outcome
by_handled g want (Some h) = by_change g h
by_handled g want None = outcome.Early want

-- the answer to an arrival
abbrev pub answer_to : List Handled → Arrival → Outcome
answer_to hs a =
    if is_fresh (arrivals_of hs) a then outcome.Fresh
    else by_handled a.change (suc (count_of a.source (arrivals_of hs))) (handled_at a.source a.number hs)

-- what was handled after it, where this is replied to a fresh one
abbrev pub handled_after : ReplyValue → List Handled → Arrival → List Handled
handled_after r hs a = if is_fresh (arrivals_of hs) a then hs ++ record { arrival = a; reply = r } ∷ [] else hs

-- and what stands
abbrev pub standing_after : Standing → List Handled → Arrival → Standing
standing_after s hs a = if is_fresh (arrivals_of hs) a then standing_by (reply_to s a.change) s a.change else s

-- and what takes the changes then is
abbrev pub taken_after : {A : Type 0} → (A → List Change → A) → (A → A) → Standing → A → List Handled → Arrival → A
taken_after after_propose after_accept s to hs a = if is_fresh (arrivals_of hs) a then taken_by after_propose after_accept (reply_to s a.change) to a.change else to
