use Rattle.std.proofs.Common.{◌≡◌, take, map}
use Rattle.view_def.specs.declared.typed.Cond.{Cond}
use Rattle.view_def.specs.Conditions.{condition_of}
use Rattle.plan_form.specs.Tests.{cell_for, condition_in, placed}
use Rattle.plan_form.proofs.test.+place.Given as goal

abbrev pub invariant-each_placed-loop-member : goal.invariant-each_placed-loop-member
invariant-each_placed-loop-member l = map condition_in l.tests.items ≡ map (λ (c : Cond). placed (cell_for l.decls l.header) (condition_of c)) (take l.member-index l.members)
