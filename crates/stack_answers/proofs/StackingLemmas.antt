-- From the opening of a stack and the answers behind it to a run of `stack`.
use Rattle.std.proofs.Common.{◌≡◌, ◌≢◌, ℕ, true, List, refl}
use Rattle.std.specs.Prelude.{Result, Ok, Err}
use Rattle.outside.specs.Effects.{Effect, World}
use Rattle.course.specs.declared.status.Verdict.{Verdict}
use Rattle.course.specs.declared.status.Halt.{Halt}
use Rattle.course.specs.declared.status.Halt.TheVariants as halt
use Rattle.course.specs.Answering.{Continues, AnsweredSome}
use Rattle.course.specs.Statuses.{can_maintain}
use Rattle.course.specs.Course.{verdict_status, status_of}
use Rattle.opened_view.proofs.MaintainLemmas.{drove_verdict, stopped_can, done_can}
use Rattle.stack_answers.specs.Stack.{StackState}
use Rattle.stack_answers.specs.Answers.{step, finish, answer, end_stack}

-- no line ends a run of `stack`
pub goes : (s : StackState) (line : List ℕ) → (es : List Effect) × (t : StackState) × (step s line ≡ Continues es t)
goes s line = ((answer s line).effects, (answer s line).stack, refl)

-- the statuses of its lines
pub drove_can : (s : StackState) (w v : World) (r : Result Verdict Halt) → AnsweredSome step finish s w v r → r ≢ Err halt.DiskFault → can_maintain (status_of r) ≡ true
drove_can s w v (Ok x) h never = drove_verdict step finish goes (λ (x : Verdict). can_maintain (verdict_status x) ≡ true) (λ t. done_can (end_stack t).refused) s w v x h
drove_can s w v (Err halt.InputFault) h never = refl
drove_can s w v (Err halt.TooLong) h never = refl
drove_can s w v (Err halt.DiskFault) h never = absurd (never refl)
drove_can s w v (Err (halt.Stopped e)) h never = stopped_can e
