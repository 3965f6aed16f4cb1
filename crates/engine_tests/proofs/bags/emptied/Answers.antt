use Rattle.std.proofs.Common.{[], List, sym, ◌∙◌, subst, arith}
use Rattle.operator_law.specs.declared.delta.Signed.{Signed}
use Rattle.operator_law.specs.Bags.{MovesBag}
use Rattle.operator_law.proofs.SignedRows.{all_go}
use Rattle.engine_tests.proofs.bags.emptied.Goals as goal

pub returns : goal.returns
returns c =
    let rows = c.args.rows.items in
    c.commit.ensures.moved rows [] (c.in_ok-ready.ensures.keeps rows c.requires)
    (subst (λ (ms : List Signed). MovesBag rows ms []) (sym (c.in_ok-ready.ensures.ready ∙ c.in_ok-change.ensures)) (all_go rows)) (omega arith)
