use Rattle.std.proofs.Common.{ap, subst, sym, ◌∙◌}
use Rattle.unfold_op.specs.OneTables.{OneTableValue, KeepsFacts, CanKeep}
use Rattle.unfold_op.proofs.kept_facts.KeptFactsKept.commit.Goals as goal

pub returns-clause-moved : goal.returns-clause-moved
returns-clause-moved g c = λ x y h moves can.
    c.commit.ensures.moved c.args.ready x y (ap (λ (t : OneTableValue). t.waiting) c.self.view_is ∙ c.requires)
    (subst (λ (t : OneTableValue). KeepsFacts t x) (sym c.self.view_is) h) moves (subst (λ (t : OneTableValue). CanKeep t.shape y) (sym c.self.view_is) can)
