use Rattle.std.proofs.Common.{subst, arith}
use Rattle.split_op.specs.Parts.{SameColumns}
use Rattle.split_op.proofs.Columns.{can_keep_columns}
use Rattle.split_op.proofs.PartMoves.{none_left}
use Rattle.split_op.proofs.stages.moved.Goals as goal

pub returns-then-count-gt0 : goal.returns-then-count-gt0
returns-then-count-gt0 g c = λ shape x y k m can.
    let t = c.args.inner in
    let new = c.commit.new.self in
    let form = (g.I.TableOperator.table t).shape in
    let keeps = g.met.I.TableOperator.keeps_facts new y (c.commit.ensures.moved x y (g.met.I.TableOperator.facts_kept t x k.keeps) m (g.met.I.TableOperator.can_be_kept t y (can_keep_columns shape form k.columns y can))) in
    let some = c.if-count-gt0.true in (
      record { columns = subst (SameColumns shape) (g.met.I.TableOperator.same_form t new c.commit.ensures.alike) k.columns; keeps = keeps },
      omega (arith, keeps.total, c.count.ensures, some),
    )

pub returns-else-count-gt0 : goal.returns-else-count-gt0
returns-else-count-gt0 g c = λ shape x y k m can.
    let t = c.args.inner in
    let new = c.commit.new.self in
    let form = (g.I.TableOperator.table t).shape in
    let keeps = g.met.I.TableOperator.keeps_facts new y (c.commit.ensures.moved x y (g.met.I.TableOperator.facts_kept t x k.keeps) m (g.met.I.TableOperator.can_be_kept t y (can_keep_columns shape form k.columns y can))) in
    let none = c.if-count-gt0.false in
    none_left y (omega (arith, keeps.total, c.count.ensures, none))
