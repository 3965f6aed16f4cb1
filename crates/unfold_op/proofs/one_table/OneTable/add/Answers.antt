use Rattle.std.proofs.Common.{None}
use Rattle.flow_law.specs.Facts.{Fact}
use Rattle.unfold_op.specs.FactMoves.{facts_in}
use Rattle.unfold_op.specs.TableFields.{seen}
use Rattle.unfold_op.proofs.Added.{can_count, keeps_added}
use Rattle.unfold_op.proofs.one_table.OneTable.add.Goals as goal

pub count-requires : goal.count-requires
count-requires c =
    let t = seen c.args.self.now in
    let fact : Fact = record { label = c.args.label.now; key = c.args.key; cell = c.args.cell } in
    let r = c.requires.fits in
    (fact.label, facts_in t.shape r.0, can_count t fact r.0 r.1)

pub returns-clause-keeps : goal.returns-clause-keeps
returns-clause-keeps c = λ rows h.
    let t = seen c.args.self.now in
    let fact : Fact = record { label = c.args.label.now; key = c.args.key; cell = c.args.cell } in
    keeps_added t fact rows h c.count.new.self c.take_label.new.kept None (c.in_ok-count.ensures fact.label (facts_in t.shape rows) (can_count t fact rows h)) c.in_ok-take_label.ensures
