use Rattle.std.proofs.Common.{[], ◌++◌, map}
use Rattle.flow_law.specs.FactRows.{fact_row}
use Rattle.fact_tables.specs.Counted.{each_fact}
use Rattle.view_engine.proofs.Adding.{can_add_next, one_added}
use Rattle.view_engine.proofs.tables.ViewTables.fill.Goals as goal

pub add-requires : goal.add-requires
add-requires g c =
    let a = c.loop-fact.invariant in
    let r = c.requires in
    (r.0, map fact_row a.done ++ [], can_add_next c.args.self.now (each_fact c.args.facts) c.loop-fact.self (each_fact c.loop-fact.left) (each_fact c.take_last.new.self) c.in-Some.fact c.in-Some.ensures.taken a r.0 [] r.1)

pub loop-fact-preserved : goal.loop-fact-preserved
loop-fact-preserved g c =
    one_added c.args.self.now (each_fact c.args.facts) c.loop-fact.self (each_fact c.loop-fact.left) (each_fact c.take_last.new.self) c.in-Some.fact c.in-Some.ensures.taken c.loop-fact.invariant c.add.new.self c.in_ok-add.ensures
