use Rattle.std.proofs.Common.{ap, sym, ◌∙◌, Some}
use Rattle.plan_translate.proofs.Waiting.{waits_in_each}
use Rattle.plan_translate.proofs.Commits.{stands_on, joints_on}
use Rattle.plan_translate.proofs.plan.Plan.commit.Goals as goal

pub commit_each-requires : goal.commit_each-requires
commit_each-requires c =
    waits_in_each (λ w. w.value.items) c.self.inside.joins.items c.self.inside.waiting c.ready.inside.joins.items c.self.invariant.ready
    (ap (λ p. p.waiting) c.self.view_is ∙ c.requires ∙ ap (λ r. Some r) (sym c.ready.view_is))

pub invariant_of-self : goal.invariant_of-self
invariant_of-self c =
    let inv = c.self.invariant in
    record {
      profile = inv.profile;
      specs = inv.specs;
      reads = inv.reads;
      tests = inv.tests;
      joints = joints_on c.self.inside inv c.ready.inside.joins.items c.commit_each.new.joins.items c.commit_each.ensures;
      output = inv.output;
      ready = λ ms e. absurd (cc e);
    }

pub returns-clause-stands : goal.returns-clause-stands
returns-clause-stands c = stands_on c.self.inside c.self.invariant c.args.self.now c.self.view_is c.ready.inside.joins.items c.args.ready c.ready.view_is c.commit_each.new.joins.items c.commit_each.ensures
