use Rattle.view_engine.specs.Forms.{KeepsTables}
use Rattle.engine_tests.proofs.tables.first_other.Given as goal

abbrev pub invariant-loop-step : goal.invariant-loop-step
invariant-loop-step g l = KeepsTables l.shape l.tables l.rows.items
