use Rattle.change_draft.specs.Drafts.{StandsOver}
use Rattle.layer_tests.proofs.drafts.first_refusal.Given as goal

abbrev pub invariant-loop-line : goal.invariant-loop-line
invariant-loop-line l = StandsOver l.draft l.base.databases
