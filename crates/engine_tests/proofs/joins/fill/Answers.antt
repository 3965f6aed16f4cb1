use Rattle.std.proofs.Common.{[], List, sym, ap, subst}
use Rattle.operator_law.specs.declared.delta.Signed.{Signed}
use Rattle.operator_law.specs.Bags.{weigh, MovesBag}
use Rattle.operator_law.proofs.SignedRows.{all_come}
use Rattle.engine_tests.proofs.joins.fill.Goals as goal

pub reserve-requires-clause-fits : goal.reserve-requires-clause-fits
reserve-requires-clause-fits c =
    let xs = c.requires.come.0 in
    let ys = c.requires.come.1 in
    let left = c.requires.come.2 in
    let right = c.requires.come.3 in (
      ([], []),
      (xs, ys),
      (λ f. ap (weigh f) (sym c.requires.left), λ f. ap (weigh f) (sym c.requires.right)),
      (subst (λ (ms : List Signed). MovesBag [] ms xs) (sym left) (all_come xs), subst (λ (ms : List Signed). MovesBag [] ms ys) (sym right) (all_come ys)),
      tt,
    )
