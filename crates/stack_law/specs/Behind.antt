-- The stages of a stack behind its opening.
use Rattle.std.specs.Prelude.{ℕ, List, [], ◌∷◌, ◌++◌, map}
use Rattle.outside.specs.Effects.{Effect}
use Rattle.course.specs.Answering.{Reply, Continues, Finishes}
use Rattle.stack_answers.specs.Stack.{StackState}
use Rattle.stack_answers.specs.Answers.{Answer, finish}
use Rattle.stack_law.specs.Lists.{answers_to}
use Rattle.stack_law.specs.Promises.{stack_behind}

-- each answer to these lines, and their end: each makes one sync of all levels, or none
abbrev pub stack_stages_behind : StackState → List (List ℕ) → List (List Effect)
stack_stages_behind s lines = map (λ (a : Answer). a.effects) (answers_to s lines) ++ (finish (stack_behind s lines)).effects ∷ []

-- before them the opening makes the first one, or prints a refusal
abbrev pub stack_stages_from : Reply StackState → List (List ℕ) → List (List Effect)
stack_stages_from (Continues es s) lines = es ∷ stack_stages_behind s lines
stack_stages_from (Finishes es v) lines = es ∷ []
