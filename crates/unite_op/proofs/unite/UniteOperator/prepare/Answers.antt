use Rattle.std.proofs.Common.{◌≡◌, Some, sym, refl, subst}
use Rattle.unite_op.specs.NamedThings.{bearer, Stand}
use Rattle.unite_op.specs.declared.named.Named.{Named}
use Rattle.unite_op.proofs.UniteLemmas.{stands_there, moves_united, someone}
use Rattle.unite_op.proofs.unite.UniteOperator.prepare.Goals as goal

pub unreachable-requires : goal.unreachable-requires
unreachable-requires g c =
    let none = rw (c.deref.ensures.value, c.in_default.is) at c.bearer.ensures in
    someone c.args.change.now.names c.args.inputs.now.items c.requires.0 (sym none)

pub returns-in-Err-clause-cost : goal.returns-in-Err-clause-cost
returns-in-Err-clause-cost g c =
    let found = rw c.deref.ensures.value at c.in-Some.ensures in
    λ n h. c.prepare.ensures.cost n (h c.in-Some.input.now (sym found))

pub returns-in_err-delta-clause-cost : goal.returns-in_err-delta-clause-cost
returns-in_err-delta-clause-cost g c =
    let found = rw c.deref.ensures.value at c.in-Some.ensures in
    λ n h. c.prepare.ensures.cost n (h c.in-Some.input.now (sym found))

pub returns-clause-law : goal.returns-clause-law
returns-clause-law g c = λ x y hx m.
    let input = c.in-Some.input.now in
    let inputs = c.args.inputs.now.items in
    let names = c.args.change.now.names in
    let found : bearer names inputs ≡ Some input = sym (rw c.deref.ensures.value at c.in-Some.ensures) in
    let stands = g.I.Operator.stands_for c.args.self.now.inner in
    let there = stands_there stands names (record { names = names; value = m.before }) refl inputs m.front m.back (subst (λ z. Stand stands inputs z) m.old hx) c.requires.0 in
    let same : there.0 ≡ input = cc in
    let stood : stands input.value m.before = subst (λ (n : Named _). stands n.value m.before) same there.2 in
    let inner = c.in-Ok.ensures.law m.before m.after stood m.moved in
    rw (m.old, m.now, c.in_ok-delta.ensures) (moves_united (g.I.Operator.value c.args.self.now.inner) names m.before m.after m.front m.back _ inner)

pub returns-clause-gives : goal.returns-clause-gives
returns-clause-gives g c =
    let found = rw c.deref.ensures.value at c.in-Some.ensures in
    (c.in-Some.input.now, sym found, c.in-Ok.delta, c.in-Ok.ensures.gives, c.in_ok-delta.ensures)

pub returns-clause-cost : goal.returns-clause-cost
returns-clause-cost g c =
    let found = rw c.deref.ensures.value at c.in-Some.ensures in
    λ n h. c.prepare.ensures.cost n (h c.in-Some.input.now (sym found))
