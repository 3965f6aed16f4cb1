use Rattle.std.proofs.Common.{sym, subst, List}
use Rattle.operator_law.specs.declared.delta.Signed.{Signed}
use Rattle.operator_law.specs.Bags.{MovesBag}
use Rattle.schema_model.specs.States.{plain_relation}
use Rattle.schema_delta.specs.Flat.{part, changed_relation}
use Rattle.schema_delta.proofs.FlatLaw.{part_moved}
use Rattle.schema_delta.proofs.change.part_change.Goals as goal

pub returns-clause-moved : goal.returns-clause-moved
returns-clause-moved g c =
    let s = c.args.spec.now in
    let db = c.args.db.now in
    let r = plain_relation c.args.relation.now in
    let over = rw c.name-name.ensures at c.if-not-goes_over.ensures in
    let is = rw (c.in_ok-names.ensures, c.name-name.ensures) at c.in_ok-delta.ensures in
    let moved = part_moved s db r c.args.change.now c.in_ok-inside.inside (sym over) c.in_ok-inside.ensures.moved in
    subst (λ (ms : List Signed). MovesBag (part s db r) ms (part s db (changed_relation c.args.change.now r))) (sym is) moved
