-- At most how many steps an opened view takes for a line of its input.
use Rattle.std.specs.Prelude.{◌≡◌, ℕ, ◌+◌, ◌≤◌, ◌==◌, List, [], length, Option, None, Some, Result, Ok, Err, if◌then◌else◌}
use Rattle.std.specs.Option.{ForSome}
use Rattle.ss_text.specs.Texts.{Row}
use Rattle.tab_lines.specs.Spelling.{unspell}
use Rattle.schema_model.specs.Reading.{change_of}
use Rattle.schema_model.specs.declared.change.Change.{Change}
use Rattle.schema_model.specs.declared.change.ChangeFault.{ChangeFault}
use Rattle.view_session.specs.Limits as session
use Rattle.course.specs.Answering.{Reply, Continues, Finishes}
use Rattle.course.specs.Answering as lines
use Rattle.ss_print.specs.Fields.{first_field}
use Rattle.view_stages.specs.Open.{OpenValue}
use Rattle.opened_view.specs.declared.word.Word.{Word}
use Rattle.opened_view.specs.declared.word.Word.TheVariants as word
use Rattle.opened_view.specs.Answers.{in_group, word_in, step}

-- a change in a group is only held
abbrev pub limit_of_change : OpenValue → Change → Option ℕ
limit_of_change o g = if in_group o then Some 0 else session.limit_of o.session g

-- a line that says no change is refused
abbrev pub by_change : OpenValue → Result Change ChangeFault → Option ℕ
by_change o (Err f) = Some 0
by_change o (Ok g) = limit_of_change o g

-- of the words only the end of a group takes steps, for which no bound is known
abbrev pub by_word : OpenValue → Word → Option ℕ
by_word o word.Commit = if in_group o then None else Some 0
by_word o w = Some 0

-- a word with further fields is refused
abbrev pub by_fields : OpenValue → Row → Word → Option ℕ
by_fields o row w = if length row == 1 then by_word o w else Some 0

-- a line that begins with a word, or that says a change
abbrev pub by_first : OpenValue → Row → Option Word → Option ℕ
by_first o row (Some w) = by_fields o row w
by_first o row None = by_change o (change_of row)

abbrev pub by_row : OpenValue → Row → Option ℕ
by_row o row = by_first o row (word_in (first_field row))

-- a line has a backslash that spells nothing, or its row is answered
abbrev pub by_spelling : OpenValue → Result Row ℕ → Option ℕ
by_spelling o (Err at) = Some 0
by_spelling o (Ok row) = by_row o row

abbrev pub limit : OpenValue → List ℕ → Option ℕ
limit o line = by_spelling o (unspell line)

-- no more steps were taken than a number, where it is known: i and j are those before and after
abbrev pub IsWithin : Option ℕ → ℕ → ℕ → Type 0
IsWithin most i j = ForSome most (λ n. j ≤ i + n)

-- a machine takes no more steps than its answers to these lines may, and a run that its opening ended takes none
module _ {A : Type 0} (replies : A → List ℕ → Reply A) (most : A → List ℕ → Option ℕ) where
  abbrev pub StepsBy : Reply A → List (List ℕ) → ℕ → ℕ → Type 0
  StepsBy (Continues es a) ls i j = IsWithin (lines.limit_of replies most ls (Continues [] a)) i j
  StepsBy (Finishes es v) ls i j = j ≡ i

-- so does an opened view
abbrev pub StepsBehind : Reply OpenValue → List (List ℕ) → ℕ → ℕ → Type 0
StepsBehind r ls i j = StepsBy step limit r ls i j
