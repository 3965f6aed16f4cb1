use Rattle.std.proofs.Common.{sym, ◌∙◌, List, subst}
use Rattle.operator_law.specs.declared.delta.Signed.{Signed}
use Rattle.operator_law.specs.Bags.{MovesBag}
use Rattle.unfold_op.specs.TableFields.{seen}
use Rattle.unfold_op.proofs.Answered.{stands_moved, same_waits}
use Rattle.unfold_op.proofs.one_table.OneTable.commit.Goals as goal

pub commit-requires : goal.commit-requires
commit-requires c = (c.requires.ready c.in-Some.waiting (sym c.take.ensures.value ∙ c.in-Some.is)).room

pub returns-in-Some-clause-moved : goal.returns-in-Some-clause-moved
returns-in-Some-clause-moved c = λ ms x y e h moves can.
    let w = c.in-Some.waiting in
    let waits = sym c.take.ensures.value ∙ c.in-Some.is in
    let made = subst (λ (ns : List Signed). MovesBag x ns y) (same_waits c.args.self.now.waiting w ms waits e) moves in
    stands_moved (seen c.args.self.now) w (c.requires.ready w waits) c.commit.new.counts _ c.commit.ensures x y h made can
