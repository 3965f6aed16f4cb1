-- How an opened view answers the lines of its input.
use Rattle.std.specs.Prelude.{Bool, true, ℕ, suc, zero, ◌==◌, List, [], ◌∷◌, ◌++◌, length, Option, None, Some, is_some, Result, Ok, Err, if◌then◌else◌, codes}
use Rattle.std.specs.Option.{option_map_or}
use Rattle.ss_text.specs.Texts.{Text, Row, text_eq}
use Rattle.schema_model.specs.Catalogue.{CatalogueValue}
use Rattle.tab_lines.specs.Spelling.{unspell}
use Rattle.outside.specs.Effects.{Effect}
use Rattle.schema_model.specs.Changes.{after}
use Rattle.schema_model.specs.Refusals.{fault}
use Rattle.schema_model.specs.Reading.{change_of}
use Rattle.schema_model.specs.declared.change.Change.{Change}
use Rattle.schema_model.specs.declared.change.ChangeFault.{ChangeFault}
use Rattle.schema_model.specs.declared.change.ChangeFault.TheVariants.{FieldCount}
use Rattle.schema_model.specs.declared.refusal.Refusal.{Refusal}
use Rattle.flow_law.specs.declared.line.TableLine.{TableLine}
use Rattle.flow_law.specs.Tables.{labels_of}
use Rattle.outside.specs.Tree.{Tree}
use Rattle.view_session.specs.Session.{SessionState, cleared, tables_of, lines_to, moved, begun, holding, closed, working, committed}
use Rattle.course.specs.declared.status.Verdict.TheVariants as verdict
use Rattle.course.specs.Answering.{Reply, Continues, Ending}
use Rattle.ss_print.specs.Fields.{escape_fields, first_field, line_fields, refusal_fields, group_broken_fields, open_group_fields, in_group_fields, no_group_fields}
use Rattle.ss_print.specs.Printing.{refuses, prints_begun, prints_held, prints_aborted, prints_script}
use Rattle.view_stages.specs.Open.{OpenValue}
use Rattle.view_stages.specs.Stages.{refusal_of}
use Rattle.view_stages.specs.Syncs.{sync_count, sync_writes, sync_effects, view_effects}
use Rattle.opened_view.specs.declared.word.Word.{Word}
use Rattle.opened_view.specs.declared.word.Word.TheVariants as word

-- what an answer says of the tables: nothing, the script by which they change, or that their files are synced
pub data Said : Type 0 where
  Tells : Said
  Scripts : List TableLine → Said
  Syncs : Said

-- an answer to a line: what it says of the tables, what is done, what the view then is, and how many files and folders that writes, makes or removes over a tree
pub record Answer : Type 0 where
  pub said : Said
  pub effects : List Effect
  pub view : OpenValue
  pub writes : Tree → ℕ

-- whether a group is open, and how many lines are refused in it with one more
abbrev pub in_group : OpenValue → Bool
in_group o = is_some o.session.held

abbrev pub more_broken : OpenValue → ℕ
more_broken o = if in_group o then suc o.broken else o.broken

-- a line is refused, and changes nothing else
abbrev pub refusing : OpenValue → Row → Answer
refusing o fields = record {
  said = Tells;
  effects = refuses fields ∷ [];
  view = record { session = o.session; synced = o.synced; refused = true; broken = more_broken o };
  writes = λ t. 0;
}

-- a group opens, holds a change, is given up, and is refused at its end, which gives it up too
abbrev pub beginning : OpenValue → Answer
beginning o = record {
  said = Tells;
  effects = prints_begun ∷ [];
  view = record { session = begun o.session; synced = o.synced; refused = o.refused; broken = 0 };
  writes = λ t. 0;
}

abbrev pub keeping : OpenValue → Change → Answer
keeping o g = record {
  said = Tells;
  effects = prints_held ∷ [];
  view = record { session = holding o.session g; synced = o.synced; refused = o.refused; broken = o.broken };
  writes = λ t. 0;
}

abbrev pub aborting : OpenValue → Answer
aborting o = record {
  said = Tells;
  effects = prints_aborted ∷ [];
  view = record { session = closed o.session; synced = o.synced; refused = o.refused; broken = 0 };
  writes = λ t. 0;
}

abbrev pub giving_up : OpenValue → Row → Answer
giving_up o fields = record {
  said = Tells;
  effects = refuses fields ∷ [];
  view = record { session = closed o.session; synced = o.synced; refused = true; broken = 0 };
  writes = λ t. 0;
}

-- the catalogue becomes another, and the script is printed
abbrev pub scripting : OpenValue → CatalogueValue → SessionState → ℕ → Answer
scripting o c s broken =
    let lines : List TableLine = lines_to o.session c in
    record {
      said = Scripts lines;
      effects = prints_script lines ∷ [];
      view = record { session = s; synced = o.synced; refused = o.refused; broken = broken };
      writes = λ t. 0;
    }

-- a change is made, and so are those of a group
abbrev pub changing : OpenValue → Change → Answer
changing o g = scripting o (after o.session.catalogue g) (moved o.session g) o.broken

abbrev pub committing : OpenValue → Answer
committing o = scripting o (working o.session) (committed o.session) 0

-- the files are synced, and nothing waits for the next sync
abbrev pub synced_view : OpenValue → OpenValue
synced_view o = record { session = cleared o.session; synced = labels_of (tables_of o.session); refused = o.refused; broken = o.broken }

-- a sync: the sources that were named are saved, and then the view's files are synced
abbrev pub syncing : OpenValue → Answer
syncing o = record {
  said = Syncs;
  effects = sync_effects o;
  view = synced_view o;
  writes = λ t. sync_writes t o;
}

-- a sync of the view's files alone, which leaves the sources as they are
abbrev pub syncing_view : OpenValue → Answer
syncing_view o = record {
  said = Syncs;
  effects = view_effects o;
  view = synced_view o;
  writes = λ t. sync_count o;
}

-- the view over the catalogue after a change is refused, or the change is made
abbrev pub by_view : OpenValue → Change → Option Row → Answer
by_view o g (Some fields) = refusing o fields
by_view o g None = changing o g

-- the catalogue refuses a change, or the view is judged over the catalogue after it; in a group the change is held where the catalogue after those before it does not refuse it
abbrev pub by_fault : OpenValue → Change → Option Refusal → Answer
by_fault o g (Some r) = refusing o (refusal_fields g r)
by_fault o g None = if in_group o then keeping o g else by_view o g (refusal_of (after o.session.catalogue g) o.session.query)

-- a line says no change, or the change is judged
abbrev pub by_change : OpenValue → Row → Result Change ChangeFault → Answer
by_change o row (Err f) = refusing o (line_fields row f)
by_change o row (Ok g) = by_fault o g (fault (working o.session) g)

-- the view over the catalogue after a group is refused, or its changes are made
abbrev pub by_group : OpenValue → Option Row → Answer
by_group o (Some fields) = giving_up o fields
by_group o None = committing o

-- a group in which lines were refused is refused, and else the view is judged
abbrev pub by_broken : OpenValue → ℕ → Answer
by_broken o zero = by_group o (refusal_of (working o.session) o.session.query)
by_broken o (suc n) = giving_up o (group_broken_fields (suc n))

-- the word that the first field is
abbrev pub word_in : Text → Option Word
word_in field =
    if text_eq field (codes "begin") then Some word.Begin
    else if text_eq field (codes "commit") then Some word.Commit
    else if text_eq field (codes "abort") then Some word.Abort
    else if text_eq field (codes "sync") then Some word.Sync
    else None

-- the answers to lines, by what a sync is answered
module _ (sync : OpenValue → Answer) where
  -- a word alone: a group does not stand in another, nor a sync in a group, and none is ended that is not open
  abbrev pub by_word : OpenValue → Row → Word → Answer
  by_word o row word.Begin = if in_group o then refusing o (in_group_fields row) else beginning o
  by_word o row word.Commit = if in_group o then by_broken o o.broken else refusing o (no_group_fields row)
  by_word o row word.Abort = if in_group o then aborting o else refusing o (no_group_fields row)
  by_word o row word.Sync = if in_group o then refusing o (in_group_fields row) else sync o

  -- a word has no further fields
  abbrev pub by_fields : OpenValue → Row → Word → Answer
  by_fields o row w = if length row == 1 then by_word o row w else refusing o (line_fields row (FieldCount (length row)))

  -- a line that begins with a word, or that says a change
  abbrev pub by_first : OpenValue → Row → Option Word → Answer
  by_first o row (Some w) = by_fields o row w
  by_first o row None = by_change o row (change_of row)

  abbrev pub by_row : OpenValue → Row → Answer
  by_row o row = by_first o row (word_in (first_field row))

  -- a line has a backslash that spells nothing, or its row is answered
  abbrev pub by_spelling : OpenValue → Result Row ℕ → Answer
  by_spelling o (Err at) = refusing o (escape_fields at)
  by_spelling o (Ok row) = by_row o row

  abbrev pub answer_by : OpenValue → List ℕ → Answer
  answer_by o line = by_spelling o (unspell line)

  -- the answers to lines, each by the view behind those before it
  abbrev pub answers_by : OpenValue → List (List ℕ) → List Answer
  answers_by o [] = []
  answers_by o (line ∷ lines) = answer_by o line ∷ answers_by (answer_by o line).view lines

-- a sync saves the sources
abbrev pub answer : OpenValue → List ℕ → Answer
answer o line = answer_by syncing o line

abbrev pub answers_to : OpenValue → List (List ℕ) → List Answer
answers_to o lines = answers_by syncing o lines

-- each line is answered, and the run goes on
abbrev pub step : OpenValue → List ℕ → Reply OpenValue
step o line = Continues (answer o line).effects (answer o line).view

-- at the end of the input an open group is refused
abbrev pub by_open : OpenValue → Option (List Change) → Option Answer
by_open o None = None
by_open o (Some gs) = Some (giving_up o (open_group_fields (length gs)))

abbrev pub last_answer : OpenValue → Option Answer
last_answer o = by_open o o.session.held

-- what that does, and the view then
abbrev pub end_effects : OpenValue → List Effect
end_effects o = option_map_or (λ (a : Answer). a.effects) (last_answer o) []

abbrev pub end_view : OpenValue → OpenValue
end_view o = option_map_or (λ (a : Answer). a.view) (last_answer o) o

-- and then comes one more sync
abbrev pub finish : OpenValue → Ending
finish o = record { effects = end_effects o ++ sync_effects (end_view o); status = if (end_view o).refused then verdict.SomeRefused else verdict.Done }
