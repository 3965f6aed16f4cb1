use Rattle.std.proofs.Common.{◌≡◌, ◌≤◌}
use Rattle.load_run.specs.Runs.{ran}
use Rattle.load_run.proofs.run.Run.go_through.Given as goal

-- what came of the changes before this place
abbrev pub invariant-loop-place : goal.invariant-loop-place
invariant-loop-place g l = record { ran : l.self ≡ ran l.seed l.place; rises : l.fn.steps ≤ l.steps }
