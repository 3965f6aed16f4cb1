use Rattle.std.proofs.Common.{◌≡◌, List, length, arith, ap, sym, ◌∙◌}
use Rattle.operator_law.specs.declared.delta.Signed.{Signed}
use Rattle.schema_delta.specs.Net.{SameNet}
use Rattle.plan_translate.specs.Parts.{own_tests, each_passing}
use Rattle.plan_translate.proofs.Each.{zip_long}
use Rattle.plan_translate.proofs.Moving.{profile_in, tests_in, joins_long, joined_in, split_in}
use Rattle.plan_translate.proofs.plan.Plan.own_moves.Goals as goal

pub own_moves-requires : goal.own_moves-requires
own_moves-requires c = c.requires ∙ sym (tests_in c.self.inside c.self.invariant c.args.self.now c.self.view_is) ∙ ap length (sym c.deref.ensures.value)

pub returns-clause-moves : goal.returns-clause-moves
returns-clause-moves c =
    let i = c.self.inside in
    let p = c.args.self.now in
    let own : List (List Signed) = c.in_ok-own.own.items in
    let first : List Signed = c.split.result.0 in
    let further : List (List Signed) = c.split.result.1.items in
    let moves = c.in_ok-own.ensures.moves in
    let nets = moves.0 in
    let is : own ≡ each_passing (own_tests i.tests.items) nets = moves.2 ∙ ap (λ ts. each_passing (own_tests ts) nets) c.deref.ensures.value in
    let long : length nets ≡ length i.tests.items = zip_long SameNet c.args.deltas.items nets moves.1 ∙ c.requires ∙ sym (tests_in i c.self.invariant p c.self.view_is) in
    let both = split_in i c.self.invariant p c.self.view_is nets long first further (sym c.split.ensures ∙ is) in
    (nets, moves.1, both.0, both.1)

pub returns-clause-each : goal.returns-clause-each
returns-clause-each c =
    omega (arith, ap length c.split.ensures, c.in_ok-own.ensures.each, ap length c.deref.ensures.value, joins_long c.self.inside c.self.invariant, joined_in c.self.inside c.self.invariant c.args.self.now c.self.view_is)

pub returns-in_err-own-clause-profile : goal.returns-in_err-own-clause-profile
returns-in_err-own-clause-profile c = profile_in c.self.inside c.self.invariant c.args.self.now c.self.view_is

pub returns-clause-profile : goal.returns-clause-profile
returns-clause-profile c = profile_in c.self.inside c.self.invariant c.args.self.now c.self.view_is
