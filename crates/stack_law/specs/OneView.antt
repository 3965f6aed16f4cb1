-- A stack of one view is a view that is kept up to date.
use Rattle.std.specs.Prelude.{◌≡◌, ℕ, zero, List, [], ◌∷◌, None}
use Rattle.outside.specs.Tree.{Tree}
use Rattle.outside.specs.Effects.{Effect, Print}
use Rattle.schema_model.specs.Catalogue.{CatalogueValue}
use Rattle.view_def.specs.Query.{Query}
use Rattle.flow_law.specs.declared.line.TableLine.{TableLine}
use Rattle.course.specs.Answering.{Reply, Continues, Finishes}
use Rattle.ss_print.specs.Printing.{lines_text, script_rows}
use Rattle.view_stages.specs.Open.{OpenValue, just_opened}
use Rattle.view_stages.specs.Opening as view_opening
use Rattle.view_stages.specs.Stages.{DefinitionOrRefusal}
use Rattle.opened_view.specs.Answers as view
use Rattle.opened_view.specs.Answers.{Said, Tells, Scripts, Syncs}
use Rattle.ss_print.specs.LevelLines.{level_row}
use Rattle.stack_answers.specs.Stack.{StackState}
use Rattle.stack_answers.specs.Answers as stack
use Rattle.stack_answers.specs.Opening as stack_opening

-- an opened view, as a stack of one level
abbrev pub stacked : OpenValue → StackState
stacked o = record {
  catalogue = o.session.catalogue;
  relations = o.session.changed.relations;
  databases = o.session.changed.databases;
  levels = record { query = o.session.query; named = o.session.changed.labels; synced = o.synced } ∷ [];
  held = o.session.held;
  refused = o.refused;
  broken = o.broken;
}

abbrev pub stacked_reply : Reply OpenValue → Reply StackState
stacked_reply (Continues es o) = Continues es (stacked o)
stacked_reply (Finishes es s) = Finishes es s

-- no line was refused in a group, where none is open
abbrev pub IsSettled : OpenValue → Type 0
IsSettled o = o.session.held ≡ None → o.broken ≡ zero

-- the lines of a script behind the number of the level
abbrev pub prints_level : List TableLine → Effect
prints_level lines = Print (lines_text (level_row 1 ∷ script_rows lines))

-- what a stack does where a view says this of its tables, and does that: the same, but that a script is printed behind the level's number
abbrev pub Does : Said → List Effect → List Effect → Type 0
Does Tells es all = all ≡ es
Does (Scripts lines) es all = all ≡ prints_level lines ∷ []
Does Syncs es all = all ≡ es

-- the answer of a stack of one level to a line is that of the view, and no line is counted as refused in a group where none is open
pub record IsAnsweredAs (o : OpenValue) (line : List ℕ) : Type 0 where
  pub effects : Does (view.answer o line).said (view.answer o line).effects (stack.answer (stacked o) line).effects
  pub stack : (stack.answer (stacked o) line).stack ≡ stacked (view.answer o line).view
  pub settled : IsSettled (view.answer o line).view

-- a stack of one view is opened as the view is, answers each line as it does, and ends as it does
pub record IsAsOneView : Type 0 where
  pub opening : (t : Tree) (d : DefinitionOrRefusal) → stack_opening.opening t (d ∷ []) ≡ stacked_reply (view_opening.opening t d)
  pub first : (q : Query) (c : CatalogueValue) → IsSettled (just_opened q c)
  pub answers : (o : OpenValue) (line : List ℕ) → IsSettled o → IsAnsweredAs o line
  pub finish : (o : OpenValue) → stack.finish (stacked o) ≡ view.finish o
