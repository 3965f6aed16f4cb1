use Rattle.std.proofs.Common.{◌≡◌, ◌∙◌, ap, sym, subst}
use Rattle.std.specs.Prelude.{is_some}
use Rattle.flow_law.specs.declared.shape.Shape.{Shape}
use Rattle.split_op.specs.Splits.{SplitValue}
use Rattle.split_op.proofs.split.SplitFresh.fresh.Goals as goal

pub new-requires-clause-columns : goal.new-requires-clause-columns
new-requires-clause-columns g c =
    let like = g.met.I.TableOperator.same_form c.self.inside.pattern c.in_ok-pattern.pattern c.in_ok-pattern.ensures.alike in
    record {
      constants = ap (λ (v : Shape). v.constants) (sym like) ∙ c.self.invariant.columns.constants ∙ sym c.in_ok-constants.ensures;
      variable = ap (λ (v : Shape). is_some v.spot) (sym like) ∙ c.self.invariant.columns.variable;
    }

pub returns-clause-alike : goal.returns-clause-alike
returns-clause-alike g c =
    let made : c.self.inside.shape ≡ c.new.result.shape = (λ i. record { label = c.self.invariant.label i; constants = sym c.in_ok-constants.ensures i; spot = c.self.inside.shape.spot }) ∙ sym c.new.ensures.shape in
    record {
      shape = sym (ap (λ (u : SplitValue _). u.shape) c.self.view_is) ∙ made;
      pattern = λ t h. subst (λ (u : SplitValue _). g.I.Kept.alike u.pattern t) c.self.view_is
          (g.met.I.Fresh.alike_on c.self.inside.pattern c.in_ok-pattern.pattern t c.in_ok-pattern.ensures.alike (subst (λ v. g.I.Kept.alike v t) c.new.ensures.pattern h));
    }
