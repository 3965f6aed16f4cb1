use Rattle.std.proofs.lemmas.Result.{err_from_is_err_and}
use Rattle.fact_tables.proofs.OrderLemmas.{strict, bear, tables_are, not_refused, conflict_refused}
use Rattle.fact_tables.proofs.ordered.order_facts.Goals as goal

pub invariant_of-result : goal.invariant_of-result
invariant_of-result t c =
    let sorted = c.sort_legal.new.facts.items in
    let once = c.leave_once.new.facts.items in
    let order = c.in_ok-leave_once.ensures.order in
    record { sorted = strict sorted once order; bear = bear c.args.shape.now c.args.facts.items sorted c.in_ok-sort_legal.ensures.same once order c.requires }

pub returns-in_err-leave_once-clause-refused : goal.returns-in_err-leave_once-clause-refused
returns-in_err-leave_once-clause-refused t c =
    let p = err_from_is_err_and c.from_residual-in_err-leave_once.result c.from_residual-in_err-leave_once.ensures.1 in
    let legal = c.in_ok-sort_legal.ensures.legal in
    rw (p.1, p.2) (conflict_refused c.args.shape.now c.args.facts.items c.sort_legal.new.facts.items c.in_ok-sort_legal.ensures.same legal c.in_err-leave_once.field-0.0 c.in_err-leave_once.ensures.refused)

pub returns-clause-tables : goal.returns-clause-tables
returns-clause-tables t c =
    tables_are c.args.shape.now c.args.facts.items c.sort_legal.new.facts.items c.in_ok-sort_legal.ensures.same c.leave_once.new.facts.items c.in_ok-leave_once.ensures.order

pub returns-clause-allowed : goal.returns-clause-allowed
returns-clause-allowed t c =
    not_refused c.args.shape.now c.args.facts.items c.sort_legal.new.facts.items c.in_ok-sort_legal.ensures.same c.in_ok-sort_legal.ensures.legal c.in_ok-leave_once.ensures.clean
