use Rattle.std.proofs.Common.{arith}
use Rattle.ss_text.proofs.FrontLemmas.{by_fronts}
use Rattle.fact_tables.proofs.label.LabelOrd.cmp.Goals as goal

pub returns-in_default : goal.returns-in_default
returns-in_default c =
    let numbers = rw (c.self.invariant.front, c.other.invariant.front) at c.cmp.ensures in
    rw (← c.self.view_is, ← c.other.view_is) (by_fronts 7 (omega arith) c.self.inside.text.now c.other.inside.text.now c.self.invariant.digits c.other.invariant.digits c.cmp.result numbers c.in_default.not-Equal)
