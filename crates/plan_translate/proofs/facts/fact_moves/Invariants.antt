use Rattle.std.proofs.Common.{◌≡◌, take}
use Rattle.view_def.specs.Query.{Query}
use Rattle.plan_law.specs.PlanMoves.{fact_moves}
use Rattle.plan_form.specs.Forms.{IsOutputOf}
use Rattle.plan_translate.proofs.facts.fact_moves.Given as goal

abbrev pub invariant-loop-m : goal.invariant-loop-m
invariant-loop-m l = (q : Query) → IsOutputOf q l.output → l.moves.items ≡ fact_moves q (take l.m-index l.rows)
