-- The steps of a run behind its opening, whatever the machine.
use Rattle.std.proofs.Common.{◌≡◌, ℕ, List, [], Option, ap, ◌∙◌, arith}
use Rattle.outside.specs.Effects.{World}
use Rattle.course.specs.Answering.{Reply, Continues, Finishes}
use Rattle.course.specs.Answering as lines
use Rattle.opened_view.specs.Steps.{Begins}
use Rattle.opened_view.specs.Limits.{IsWithin, StepsBy}

module _ {A : Type 0} (step : A → List ℕ → Reply A) (limit : A → List ℕ → Option ℕ) where
  -- an opening that ended the run, or that stopped, and took no step
  pub unspent : (r : Reply A) (ls : List (List ℕ)) (i j : ℕ) → j ≡ i → StepsBy step limit r ls i j
  unspent (Continues es a) ls i j same = λ n bound. omega (arith, same)
  unspent (Finishes es v) ls i j same = same

  -- what was opened answered the lines
  pub drove_steps : (r : Reply A) (a : A) (ls : List (List ℕ)) (old mid : World) (i j k : ℕ) → Begins r old mid a → j ≡ i → IsWithin (lines.limit_of step limit ls (Continues [] a)) j k → StepsBy step limit r ls i k
  drove_steps (Finishes es w) a ls old mid i j k h same took = absurd h
  drove_steps (Continues es b) a ls old mid i j k h same took = λ n bound. omega (arith, same, took n (ap (λ (x : A). lines.limit_of step limit ls (Continues [] x)) h.1 ∙ bound))
