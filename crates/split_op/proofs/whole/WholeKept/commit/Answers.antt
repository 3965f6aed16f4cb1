use Rattle.std.proofs.Common.{refl, subst}
use Rattle.flow_law.specs.declared.shape.Shape.{Shape}
use Rattle.flow_law.specs.Labelled.{AllBear}
use Rattle.unfold_op.specs.FactMoves.{facts_in}
use Rattle.split_op.proofs.whole.WholeKept.commit.Goals as goal

pub returns-clause-moved : goal.returns-clause-moved
returns-clause-moved g c = λ x y h moves can.
    let w = c.args.self.now in
    let inner = c.commit.new.self in
    record {
      legal = h.legal;
      keeps = g.met.I.TableOperator.keeps_facts inner y (c.commit.ensures.moved x y (g.met.I.TableOperator.facts_kept w.inner x h.keeps) moves (g.met.I.TableOperator.can_be_kept w.inner y can.can));
      bear = subst (λ (v : Shape). AllBear w.label (facts_in v y)) (g.met.I.TableOperator.same_form w.inner inner c.commit.ensures.alike) can.bear;
    }

pub returns-clause-alike : goal.returns-clause-alike
returns-clause-alike g c = (refl, g.met.I.TableOperator.same_form c.args.self.now.inner c.commit.new.self c.commit.ensures.alike)
