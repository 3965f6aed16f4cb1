use Rattle.std.proofs.Common.{[], arith}
use Rattle.plan_law.specs.Columns.{alias_cell}
use Rattle.plan_form.proofs.Steps.{given_turn}
use Rattle.plan_form.proofs.terms.alias_cells.Goals as goal

pub loop-range-preserved : goal.loop-range-preserved
loop-range-preserved c = given_turn alias_cell [] c.loop-range.terms.items c.push_alias.new.terms.items c.args.decls.now c.loop-range.range-index c.range-item.result (omega arith) c.range-item.is c.loop-range.invariant c.in_ok-push_alias.ensures
