use Rattle.std.proofs.Common.{[], List, sym, ◌∙◌, subst, arith}
use Rattle.operator_law.specs.declared.delta.Signed.{Signed}
use Rattle.operator_law.specs.Bags.{MovesBag}
use Rattle.operator_law.proofs.SignedRows.{all_come}
use Rattle.engine_tests.proofs.bags.filled.Goals as goal

pub reserve-requires-clause-fits : goal.reserve-requires-clause-fits
reserve-requires-clause-fits c =
    let rows = c.args.rows.items in
    ([], rows, c.new-bag.ensures.keeps, subst (λ (ms : List Signed). MovesBag [] ms rows) (sym c.in_ok-change.ensures) (all_come rows), omega arith)

pub returns : goal.returns
returns c =
    let rows = c.args.rows.items in
    c.commit.ensures.moved [] rows (c.in_ok-ready.ensures.keeps [] c.new-bag.ensures.keeps)
    (subst (λ (ms : List Signed). MovesBag [] ms rows) (sym (c.in_ok-ready.ensures.ready ∙ c.in_ok-change.ensures)) (all_come rows)) (omega arith)
