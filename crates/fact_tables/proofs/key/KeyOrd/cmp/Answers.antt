use Rattle.std.proofs.Common.{◌≡◌, ◌<◌, ◌∙◌, length, sym, rules}
use Rattle.std.specs.FinMap.{nat_cmp-IsAntisymmetric}
use Rattle.ss_text.proofs.KeyLemmas.{text_order, equal_is}
use Rattle.ss_text.proofs.FrontLemmas.{rows_by_fronts}
use Rattle.fact_tables.specs.Next.{shortened}
use Rattle.fact_tables.proofs.NextLemmas.{rows_by_next, rows_behind, behind_fronts, shortened_len, shortened_rest}
use Rattle.fact_tables.proofs.key.KeyOrd.cmp.Goals as goal

pub returns-in-Equal-cmp : goal.returns-in-Equal-cmp
returns-in-Equal-cmp c =
    let a = c.self.inside in
    let b = c.other.inside in
    let same : b.beginning.now ≡ a.beginning.now = equal_is text_order b.beginning.now a.beginning.now (search rules) in
    let n = length a.beginning.now in
    let j = shortened n a.values in
    let k = shortened n b.values in
    let fronts = sym c.self.invariant.front ∙ nat_cmp-IsAntisymmetric a.front b.front (sym c.cmp.ensures ∙ c.in-Equal.is) ∙ rw same at c.other.invariant.front in
    let nexts = sym c.self.invariant.next ∙ nat_cmp-IsAntisymmetric a.next b.next (sym c.cmp-in-Equal.ensures ∙ c.in-Equal-cmp.is) ∙ rw same at c.other.invariant.next in
    let holds = rw (c.self.invariant.front, c.self.invariant.next) at (sym c.holds_first.ensures ∙ c.if-holds_first.true) in
    let some : 0 < length a.values = search rules in
    let others : 0 < length b.values = search rules in
    rw (← c.self.view_is, ← c.other.view_is)
    (c.order_from-in-Equal-cmp.ensures ∙ rw (shortened_rest n a.values, shortened_rest n b.values) at
    (behind_fronts j k c.self.invariant.digits (rw same at c.other.invariant.digits) c.self.invariant.next_digits (rw same at c.other.invariant.next_digits)
    (rw (shortened_len n a.values) some) (rw (shortened_len n b.values) others) fronts nexts holds)
    ∙ rows_behind a.beginning.now a.values b.values c.self.invariant.begins (rw same at c.other.invariant.begins))

pub returns-in_default-cmp : goal.returns-in_default-cmp
returns-in_default-cmp c =
    let a = c.self.inside in
    let b = c.other.inside in
    let same : b.beginning.now ≡ a.beginning.now = equal_is text_order b.beginning.now a.beginning.now (search rules) in
    let n = length a.beginning.now in
    let fronts = nat_cmp-IsAntisymmetric a.front b.front (sym c.cmp.ensures ∙ c.in-Equal.is) in
    let numbers = rw (c.self.invariant.next, c.other.invariant.next, same) at c.cmp-in-Equal.ensures in
    rw (← c.self.view_is, ← c.other.view_is)
    (rows_by_next (shortened n a.values) (shortened n b.values) c.self.invariant.digits (rw same at c.other.invariant.digits) c.self.invariant.next_digits (rw same at c.other.invariant.next_digits)
    (sym c.self.invariant.front ∙ fronts ∙ rw same at c.other.invariant.front) c.cmp-in-Equal.result numbers c.in_default-cmp.not-Equal
    ∙ rows_behind a.beginning.now a.values b.values c.self.invariant.begins (rw same at c.other.invariant.begins))

pub returns-in_default : goal.returns-in_default
returns-in_default c =
    let a = c.self.inside in
    let b = c.other.inside in
    let same : b.beginning.now ≡ a.beginning.now = equal_is text_order b.beginning.now a.beginning.now (search rules) in
    let n = length a.beginning.now in
    let numbers = rw (c.self.invariant.front, c.other.invariant.front, same) at c.cmp.ensures in
    rw (← c.self.view_is, ← c.other.view_is)
    (rows_by_fronts (shortened n a.values) (shortened n b.values) c.self.invariant.digits (rw same at c.other.invariant.digits) c.cmp.result numbers c.in_default.not-Equal
    ∙ rows_behind a.beginning.now a.values b.values c.self.invariant.begins (rw same at c.other.invariant.begins))
