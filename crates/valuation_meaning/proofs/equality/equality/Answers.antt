use Rattle.std.proofs.Common.{◌≡◌, sym, ap, subst, ◌∙◌, rules}
use Rattle.view_def.specs.declared.written.Op.TheVariants.{Eq}
use Rattle.view_def.specs.declared.written.Op.{Op}
use Rattle.view_def.specs.Conditions.{Compares, condition_of}
use Rattle.view_def.specs.Query.{query_of}
use Rattle.view_meaning.specs.Early.{NeedsMember}
use Rattle.valuation_meaning.proofs.EarlyLemmas.{compare_is}
use Rattle.valuation_meaning.proofs.SoughtLemmas.{equal_first, equal_second}
use Rattle.valuation_meaning.proofs.equality.equality.Goals as goal

pub returns-in-Some-clause-needs : goal.returns-in-Some-clause-needs
returns-in-Some-clause-needs c = λ needs.
    let q = query_of c.args.view.now in
    let m = c.in-Compare in
    let op : m.op ≡ Eq = c.is_equality.ensures (search rules) in
    let found : condition_of c.args.member.now ≡ Compares m.s m.op m.t = ap condition_of m.is ∙ compare_is m.s m.op m.t in
    let same = found ∙ ap (λ (o : Op). Compares m.s o m.t) op in
    let first = rw c.deref.ensures.value at c.resolved-first.ensures in
    let second = rw c.deref-2.ensures.value at c.resolved-second.ensures in
    let cell = sym first ∙ c.in-Some.ensures.term in
    let bound = rw second at c.in-Some.ensures.other in
    rw second (equal_first q c.in-Some.column m.s m.t c.args.place cell c.in-Some.ensures.bound bound (subst (NeedsMember q) same needs))

pub returns-in-Some-column_beside-clause-needs : goal.returns-in-Some-column_beside-clause-needs
returns-in-Some-column_beside-clause-needs c = λ needs.
    let q = query_of c.args.view.now in
    let m = c.in-Compare in
    let op : m.op ≡ Eq = c.is_equality.ensures (search rules) in
    let found : condition_of c.args.member.now ≡ Compares m.s m.op m.t = ap condition_of m.is ∙ compare_is m.s m.op m.t in
    let same = found ∙ ap (λ (o : Op). Compares m.s o m.t) op in
    let first = rw c.deref.ensures.value at c.resolved-first.ensures in
    let second = rw c.deref-2.ensures.value at c.resolved-second.ensures in
    let cell = sym second ∙ c.in-Some-column_beside.ensures.term in
    let bound = rw first at c.in-Some-column_beside.ensures.other in
    rw first (equal_second q c.in-Some-column_beside.column m.t m.s c.args.place cell c.in-Some-column_beside.ensures.bound bound (subst (NeedsMember q) same needs))
