use Rattle.std.proofs.Common.{◌≡◌, List, map, subst, ap, sym, ◌∙◌, Some, None}
use Rattle.std.specs.List.{AllZip}
use Rattle.plan_translate.specs.ChainStages.{side_moves}
use Rattle.plan_translate.specs.Sides.{CanMove}
use Rattle.plan_translate.proofs.Each.{Pair}
use Rattle.plan_translate.proofs.Commits.{all_can, stands_as, joints_alike}
use Rattle.plan_translate.proofs.plan.Plan.ready_for.Goals as goal

pub reserve_each-requires : goal.reserve_each-requires
reserve_each-requires c =
    let sides : List Pair = c.moved.inside.sides.items in
    let need = c.requires in
    subst (AllZip CanMove c.self.inside.joins.items) (sym c.deref.ensures.value)
    (all_can c.self.inside c.self.invariant c.args.self.now c.self.view_is sides c.args.moved.now.sides (ap (λ m. m.sides) c.moved.view_is) need.0 need.1 need.2 need.3)

pub invariant_of-self : goal.invariant_of-self
invariant_of-self c =
    let inv = c.self.invariant in
    record {
      profile = inv.profile;
      specs = inv.specs;
      reads = inv.reads;
      tests = inv.tests;
      joints = joints_alike c.self.inside inv c.reserve_each.new.joins.items c.reserve_each.ensures.alike;
      output = inv.output;
      ready = λ ms e. absurd (cc e);
    }

pub returns-in_err-joins-clause-same : goal.returns-in_err-joins-clause-same
returns-in_err-joins-clause-same c = stands_as c.self.inside c.self.invariant c.args.self.now c.self.view_is c.reserve_each.new.joins.items None c.reserve_each.ensures.alike

pub invariant_of-self-2 : goal.invariant_of-self-2
invariant_of-self-2 c =
    let inv = c.self.invariant in
    let kept : List Pair = c.of.result.value.items in
    let same : (ms : List Pair) → Some kept ≡ Some ms → kept ≡ ms = λ ms e. cc in
    record {
      profile = inv.profile;
      specs = inv.specs;
      reads = inv.reads;
      tests = inv.tests;
      joints = joints_alike c.self.inside inv c.reserve_each.new.joins.items c.reserve_each.ensures.alike;
      output = inv.output;
      ready = λ ms e. c.in_ok-joins.ensures.waits ∙ ap (map Some) (c.deref.ensures.value ∙ ap (λ v. v.items) (sym c.of.ensures) ∙ same ms e);
    }

pub returns-clause-same : goal.returns-clause-same
returns-clause-same c = stands_as c.self.inside c.self.invariant c.args.self.now c.self.view_is c.reserve_each.new.joins.items (Some (map side_moves c.of.result.value.items)) c.reserve_each.ensures.alike
