-- What a line of a feed says.
use Rattle.std.specs.Prelude.{◌≡◌, ℕ, ◌+◌, ◌==◌, List, [], ◌∷◌, length, slice_index, Option, Some, None, Result, Ok, Err, if◌then◌else◌, codes}
use Rattle.std.specs.Bool.{⊤}
use Rattle.ss_text.specs.Texts.{Text, Row, text_eq}
use Rattle.ss_text.specs.Whole.{natural_of}
use Rattle.tab_lines.specs.Spelling.{unspell}
use Rattle.schema_model.specs.Reading.{Read, change_of}
use Rattle.schema_model.specs.declared.change.Change.{Change}
use Rattle.schema_model.specs.declared.change.ChangeFault.TheVariants as changes
use Rattle.feed_core.specs.declared.arrival.Arrival.{Arrival}
use Rattle.feed_answers.specs.declared.line.FeedLine.{FeedLine}
use Rattle.feed_answers.specs.declared.line.FeedLine.TheVariants.{Sync, Arrives}
use Rattle.feed_answers.specs.declared.fault.FeedFault.{FeedFault}
use Rattle.feed_answers.specs.declared.fault.FeedFault.TheVariants as fault

-- 1 to 18 digits, of which the first is no zero
abbrev pub number_of : Text → Option ℕ
number_of text = if slice_index text 0 == 48 then None else natural_of text

abbrev pub Said : Type 0
Said = Result FeedLine FeedFault

-- a wrong number of fields behind a word
abbrev pub wrong_count : Text → Row → FeedFault
wrong_count word fields = fault.FieldCount word (length fields + 1)

-- behind `sync`: nothing
abbrev pub sync_of : Text → Row → Said
sync_of word [] = Ok Sync
sync_of word fields = Err (wrong_count word fields)

-- the change that some fields say; a fault names their own verb
abbrev pub by_read : Text → Read → Result Change FeedFault
by_read verb (Ok g) = Ok g
by_read verb (Err changes.UnknownVerb) = Err (fault.UnknownVerb verb)
by_read verb (Err (changes.FieldCount got)) = Err (fault.FieldCount verb got)
by_read verb (Err changes.NoMemory) = Err fault.NoMemory

abbrev pub by_change : Text → ℕ → Result Change FeedFault → Said
by_change source number (Ok g) = Ok (Arrives (record { source = source; number = number; change = g }))
by_change source number (Err e) = Err e

abbrev pub by_number : Text → Text → Option ℕ → Result Change FeedFault → Said
by_number source text (Some number) change = by_change source number change
by_number source text None change = Err (fault.BadNumber text)

-- behind `feed`: a source, a number, and the fields of a change, at least one
abbrev pub feed_of : Text → Row → Said
feed_of word (source ∷ number ∷ verb ∷ fields) = by_number source number (number_of number) (by_read verb (change_of (verb ∷ fields)))
feed_of word fields = Err (wrong_count word fields)

-- what a row of fields says; one without fields has no word
abbrev pub said_by_row : Row → Said
said_by_row [] = Err (fault.UnknownVerb [])
said_by_row (word ∷ fields) =
    if text_eq word (codes "sync") then sync_of word fields
    else (if text_eq word (codes "feed") then feed_of word fields else Err (fault.UnknownVerb word))

abbrev pub by_spelling : Result Row ℕ → Said
by_spelling (Ok row) = said_by_row row
by_spelling (Err at) = Err (fault.BadEscape at)

-- what a line says
abbrev pub said_by_line : List ℕ → Said
said_by_line line = by_spelling (unspell line)

-- the answer is this one, or there was no memory for it
abbrev pub IsAnswer : {A : Type 0} → Result A FeedFault → Result A FeedFault → Type 0
IsAnswer expected (Ok said) = Ok said ≡ expected
IsAnswer expected (Err fault.NoMemory) = ⊤
IsAnswer expected (Err e) = Err e ≡ expected

-- a fact of the arrival that a line says, if it says one
abbrev pub IfArrives : FeedLine → (Arrival → Type 0) → Type 0
IfArrives Sync P = ⊤
IfArrives (Arrives a) P = P a
