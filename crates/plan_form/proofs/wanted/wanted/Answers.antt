use Rattle.std.proofs.Common.{[], arith}
use Rattle.plan_law.specs.Columns.{wanted_in}
use Rattle.plan_form.proofs.Steps.{given_turn}
use Rattle.plan_form.proofs.wanted.wanted.Goals as goal

pub loop-term-preserved : goal.loop-term-preserved
loop-term-preserved c = given_turn (wanted_in c.args.declaration) [] c.loop-term.names.items c.push_wanted.new.names.items c.args.terms.now c.loop-term.term-index c.term-item.result (omega arith) c.term-item.is c.loop-term.invariant c.in_ok-push_wanted.ensures
