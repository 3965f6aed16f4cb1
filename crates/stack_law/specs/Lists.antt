-- What answers of a stack come to that are given one after the other.
use Rattle.std.specs.Prelude.{ℕ, ◌+◌, List, [], ◌∷◌, ◌++◌}
use Rattle.outside.specs.Tree.{Tree}
use Rattle.outside.specs.Effects.{Effect, Replace}
use Rattle.schema_model.specs.declared.change.Change.{Change}
use Rattle.source_law.specs.Counted.{counted, tree_after}
use Rattle.source_law.specs.Synced.{Synced}
use Rattle.stack_answers.specs.Stack.{StackState, stack_tables}
use Rattle.stack_answers.specs.Answers.{Answer, answer, sync_count}

-- the answers to lines, each by the stack behind those before it
abbrev pub answers_to : StackState → List (List ℕ) → List Answer
answers_to s [] = []
answers_to s (line ∷ lines) = answer s line ∷ answers_to (answer s line).stack lines

-- what answers do
abbrev pub effects_by : List Answer → List Effect
effects_by [] = []
effects_by (a ∷ answers) = a.effects ++ effects_by answers

-- the changes that they made
abbrev pub changes_by : List Answer → List Change
changes_by [] = []
changes_by (a ∷ answers) = a.changes ++ changes_by answers

-- the stack behind them
abbrev pub stack_after : StackState → List Answer → StackState
stack_after s [] = s
stack_after s (a ∷ answers) = stack_after a.stack answers

-- a sync saves what was named of the sources since the last one
abbrev pub synced : StackState → Synced → Synced
synced s before = record {
  catalogue = s.catalogue;
  relations = before.relations ++ s.relations;
  databases = before.databases ++ s.databases;
}

-- what was saved behind an answer of this stack: only a sync saves, and begins with it
abbrev pub synced_by : List Effect → StackState → Synced → Synced
synced_by (Replace edits ∷ es) s before = synced s before
synced_by es s before = before

-- and behind answers
abbrev pub last_synced : StackState → Synced → List Answer → Synced
last_synced s before [] = before
last_synced s before (a ∷ answers) = last_synced a.stack (synced_by a.effects s before) answers

-- how many files and folders an answer of this stack writes, makes or removes over a tree: a sync those of the sources, and those of the levels' folders, which are counted
abbrev pub writes_of : List Effect → StackState → Tree → ℕ
writes_of (Replace edits ∷ es) s t = counted (Replace edits ∷ []) t + sync_count s.levels (stack_tables s)
writes_of es s t = 0

abbrev pub writes_by : Tree → StackState → List Answer → ℕ
writes_by t s [] = 0
writes_by t s (a ∷ answers) = writes_of a.effects s t + writes_by (tree_after a.effects t) a.stack answers
