use Rattle.std.proofs.Common.{List, ◌++◌, refl, sym, subst}
use Rattle.operator_law.specs.declared.delta.Signed.{Signed}
use Rattle.operator_law.specs.Bags.{MovesBag}
use Rattle.part_bench.proofs.Come.{come_behind}
use Rattle.part_bench.proofs.joins.make.Goals as goal

pub reserve-requires-clause-fits : goal.reserve-requires-clause-fits
reserve-requires-clause-fits c =
    let xs = c.requires.0 in
    let ys = c.requires.1 in
    let left = c.args.join.now.left in
    let right = c.args.join.now.right in (
      (left, right),
      (left ++ xs, right ++ ys),
      (λ f. refl, λ f. refl),
      (
        subst (λ (ms : List Signed). MovesBag left ms (left ++ xs)) (sym c.requires.2) (come_behind left xs),
        subst (λ (ms : List Signed). MovesBag right ms (right ++ ys)) (sym c.requires.3) (come_behind right ys),
      ),
      tt,
    )
