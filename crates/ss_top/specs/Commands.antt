-- What the words ask for.
use Rattle.std.specs.Prelude.{ℕ, ◌≤◌, Bool, true, false, ◌&&◌, nat_le, List, [], ◌∷◌, ◌++◌, length, Option, None, Some, if◌then◌else◌, codes}
use Rattle.std.specs.List.{list_all}
use Rattle.ss_text.specs.Texts.{Text, text_eq}
use Rattle.ss_text.specs.Label.{is_table_label}
use Rattle.outside.specs.Effects.{Effect, Print}
use Rattle.load_run.specs.Numbers.{changes_of, seed_of}
use Rattle.course.specs.declared.exit.Status.{Status}
use Rattle.course.specs.Statuses.{can_check, can_show, can_maintain, can_apply, can_load, can_refuse}
use Rattle.ss_top.specs.declared.asked.Command.{Command}
use Rattle.ss_top.specs.declared.asked.Command.TheVariants as command

-- a command with the name of a view, one with the names of views over one another, a run of so many changes with a seed, or words that are none of the forms
pub data Asked : Type 0 where
  Check : Text → Asked
  Show : Text → Asked
  Maintain : Text → Asked
  Verify : Text → Asked
  Apply : Text → Asked
  Stack : List Text → Asked
  Feed : Text → Asked
  Load : ℕ → ℕ → Asked
  Other : Asked

abbrev pub command_named : Text → Text → Asked
command_named word name =
    if text_eq word (codes "check") then Check name else
    if text_eq word (codes "show") then Show name else
    if text_eq word (codes "maintain") then Maintain name else
    if text_eq word (codes "verify") then Verify name else
    if text_eq word (codes "apply") then Apply name else
    if text_eq word (codes "feed") then Feed name else Other

-- where both are lawful numbers
abbrev pub load_of : Option ℕ → Option ℕ → Asked
load_of (Some changes) (Some seed) = Load changes seed
load_of (Some changes) None = Other
load_of None seed = Other

abbrev pub command_counted : Text → Text → Asked
command_counted changes seed = load_of (changes_of changes) (seed_of seed)

-- names of views over one another: two to eight, each legal
abbrev pub are_some_levels : ℕ → Bool
are_some_levels count = nat_le 2 count && nat_le count 8

abbrev pub are_levels : List Text → Bool
are_levels names = are_some_levels (length names) && list_all is_table_label names

-- `stack` and the names of its levels
abbrev pub stack_of : List Text → Asked
stack_of [] = Other
stack_of (word ∷ names) = if are_levels names && text_eq word (codes "stack") then Stack names else Other

-- a word and a legal table label, `load` and two numbers, or `stack` and the names of its levels
abbrev pub asked_of : List Text → Asked
asked_of (word ∷ name ∷ []) = if is_table_label name then command_named word name else Other
asked_of (word ∷ changes ∷ seed ∷ []) = if text_eq word (codes "load") then command_counted changes seed else stack_of (word ∷ changes ∷ seed ∷ [])
asked_of words = stack_of words

-- the view that is to be kept with a journal, where the words are `journal` and a legal table label
abbrev pub journal_of : List Text → Option Text
journal_of (word ∷ name ∷ []) = if is_table_label name && text_eq word (codes "journal") then Some name else None
journal_of words = None

-- what a command asks for
abbrev pub asked_by : Command → Asked
asked_by (command.Check name) = Check name.now
asked_by (command.Show name) = Show name.now
asked_by (command.Maintain name) = Maintain name.now
asked_by (command.Verify name) = Verify name.now
asked_by (command.Apply name) = Apply name.now
asked_by (command.Stack names) = Stack names.now
asked_by (command.Feed name) = Feed name.now
asked_by (command.Load changes seed) = Load changes seed
asked_by command.Other = Other

-- the views that a command names
abbrev pub names_of : Asked → List Text
names_of (Check name) = name ∷ []
names_of (Show name) = name ∷ []
names_of (Maintain name) = name ∷ []
names_of (Verify name) = name ∷ []
names_of (Apply name) = name ∷ []
names_of (Stack names) = names
names_of (Feed name) = name ∷ []
names_of (Load changes seed) = []
names_of Other = []

-- views over one another are some
abbrev pub HasViews : Asked → Type 0
HasViews (Stack names) = 1 ≤ length names
HasViews asked = Unit {0}

-- whether a command calls the store
abbrev pub uses_store : Asked → Bool
uses_store (Load changes seed) = false
uses_store Other = false
uses_store asked = true

-- whether it only reads what the store holds
abbrev pub only_reads : Asked → Bool
only_reads (Check name) = true
only_reads (Show name) = false
only_reads (Maintain name) = false
only_reads (Verify name) = true
only_reads (Apply name) = false
only_reads (Stack names) = false
only_reads (Feed name) = false
only_reads (Load changes seed) = true
only_reads Other = true

-- and whether it reads the input
abbrev pub reads_input : Asked → Bool
reads_input (Maintain name) = true
reads_input (Apply name) = true
reads_input (Stack names) = true
reads_input (Feed name) = true
reads_input asked = false

-- and whether it counts steps
abbrev pub counts : Asked → Bool
counts (Maintain name) = true
counts (Stack names) = true
counts (Feed name) = true
counts (Load changes seed) = true
counts asked = false

-- the statuses that what is asked can give, whatever the store, the input and the output do
abbrev pub can_end : Asked → Status → Bool
can_end (Check name) s = can_check s
can_end (Show name) s = can_show s
can_end (Maintain name) s = can_maintain s
can_end (Verify name) s = can_show s
can_end (Apply name) s = can_apply s
can_end (Stack names) s = can_maintain s
can_end (Feed name) s = can_maintain s
can_end (Load changes seed) s = can_load s
can_end Other s = can_refuse s

-- what is printed of words that are none of the forms: which words are asked for
abbrev pub usage_line : Text
usage_line = codes "usage: schemasql check|show|maintain|verify|apply NAME, or schemasql load N SEED, or schemasql stack NAME NAME .., or schemasql feed NAME, or schemasql journal NAME"

abbrev pub prints_usage : Effect
prints_usage = Print (usage_line ++ 10 ∷ [])
