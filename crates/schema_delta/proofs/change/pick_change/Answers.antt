use Rattle.std.proofs.Common.{arith, refl, subst, ◌∙◌}
use Rattle.ss_text.specs.Texts.{Row}
use Rattle.operator_law.specs.Bags.{MovesBag}
use Rattle.fold_op.specs.Sheets.{sheet_after}
use Rattle.fold_op.specs.Flat.{pick_value}
use Rattle.schema_model.specs.States.{plain_relation}
use Rattle.schema_delta.specs.Flat.{sheet_of}
use Rattle.schema_delta.proofs.change.pick_change.Goals as goal

pub returns-in-Ok-clause-moved : goal.returns-in-Ok-clause-moved
returns-in-Ok-clause-moved g c =
    let x = sheet_of (plain_relation c.args.relation.now) in
    let y = sheet_after c.args.change.now x in
    let law = c.in-Ok.ensures.law x y refl refl in
    subst (λ (w : Row). MovesBag (pick_value w x) c.in-Ok.delta (pick_value w y)) (c.new-pick.ensures ∙ c.in_ok-copy.ensures) law

pub returns-in-Ok-clause-steps : goal.returns-in-Ok-clause-steps
returns-in-Ok-clause-steps g c = omega (arith, c.prepare.ensures.cost 0 tt, c.prepare.ensures.rises)

pub returns-clause-steps : goal.returns-clause-steps
returns-clause-steps g c = omega (arith, c.prepare.ensures.cost 0 tt, c.prepare.ensures.rises)
