use Rattle.std.proofs.Common.{◌≡◌, List, sym, ap, ◌∙◌, subst, true, arith}
use Rattle.std.specs.List.{list_all}
use Rattle.ss_text.specs.Texts.{Row}
use Rattle.operator_law.specs.Bags.{MovesBag}
use Rattle.engine_tests.specs.Facts.{is_fact_row}
use Rattle.engine_tests.proofs.FactTests.{are_moves}
use Rattle.engine_tests.proofs.facts.rows_after.Goals as goal

pub returns-then-move_facts : goal.returns-then-move_facts
returns-then-move_facts c =
    let shape = c.args.shape.now in
    let after = c.move_all.new.rows.items in
    let moves = subst (λ rows. MovesBag rows c.args.moves.now after) c.in_ok-after.ensures (c.in_ok-move_all.ensures c.if-branch.true) in
    let facts : list_all (is_fact_row shape) after ≡ true = ap (λ (rows : List Row). list_all (is_fact_row shape) rows) (sym c.deref.ensures.value) ∙ sym c.if-are_facts.ensures in
    are_moves shape c.args.moves.now c.args.rows.now after moves facts (sym c.if-move_facts.ensures) (omega arith)
