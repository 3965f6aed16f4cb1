use Rattle.std.proofs.Common.{◌≡◌, ◌≤◌, ◌+◌, ◌∙◌, List, ap, sym, subst, arith, rules}
use Rattle.schema_model.specs.States.{RelationState}
use Rattle.schema_model.proofs.RestCounted.{rows_of_all, rest_counted, all_counted}
use Rattle.schema_model.proofs.database.Database.row_count.Goals as goal
use Rattle.schema_model.specs.Limits.{most_rows}

pub overflow_add-rows : goal.overflow_add-rows
overflow_add-rows c =
    let relations = c.relations-relations.result.now in
    let rest = rest_counted relations c.loop-relation.relation-index c.relation-item.result c.loop-relation-test.true c.relation-item.is in
    let total : rows_of_all relations ≤ most_rows = subst (λ (rs : List RelationState). rows_of_all rs ≤ most_rows) (sym c.relations-relations.ensures.relations) c.requires in
    let small : c.loop-relation.rows + c.count-rows.result ≤ most_rows = omega (arith, c.loop-relation.invariant, rest, c.count-rows.ensures.count, total) in
    search (rules, small)

pub loop-relation-init : goal.loop-relation-init
loop-relation-init c = omega arith

pub loop-relation-preserved : goal.loop-relation-preserved
loop-relation-preserved c =
    let rest = rest_counted c.relations-relations.result.now c.loop-relation.relation-index c.relation-item.result c.loop-relation-test.true c.relation-item.is in
    omega (arith, c.loop-relation.invariant, rest, c.count-rows.ensures.count)

pub returns : goal.returns
returns c =
    let all = all_counted c.relations-relations.result.now c.loop-relation.relation-index c.loop-relation-test.false in
    let counted : c.loop-relation.rows ≡ rows_of_all c.relations-relations.result.now = omega (arith, c.loop-relation.invariant, all) in
    counted ∙ ap rows_of_all c.relations-relations.ensures.relations
