use Rattle.std.proofs.Common.{[], subst}
use Rattle.flow_law.specs.Facts.{Fact}
use Rattle.split_op.specs.Parts.{SameColumns}
use Rattle.split_op.proofs.Adding.{can_add_fresh, kept_fresh}
use Rattle.split_op.proofs.add.fresh_with.Goals as goal

pub add-requires : goal.add-requires
add-requires g c =
    let r = c.requires in
    let t = c.in_ok-inner.inner in
    let fact : Fact = record { label = c.args.label.now; key = c.args.key; cell = c.args.cell } in
    let columns = subst (SameColumns r.0) (g.met.I.TableOperator.same_form c.args.pattern.now t c.in_ok-inner.ensures.alike) r.1 in
    ([], can_add_fresh g.I.TableOperator.table r.0 fact t columns (g.met.I.TableOperator.keeps_facts t [] c.in_ok-inner.ensures.empty) r.2)

pub returns : goal.returns
returns g c = λ shape columns h.
    let t = c.in_ok-inner.inner in
    let fact : Fact = record { label = c.args.label.now; key = c.args.key; cell = c.args.cell } in
    let own = subst (SameColumns shape) (g.met.I.TableOperator.same_form c.args.pattern.now t c.in_ok-inner.ensures.alike) columns in
    let fits = can_add_fresh g.I.TableOperator.table shape fact t own (g.met.I.TableOperator.keeps_facts t [] c.in_ok-inner.ensures.empty) h in
    kept_fresh g.I.TableOperator.table shape fact t c.add.new.self own c.in_ok-add.ensures.shape (c.in_ok-add.ensures.keeps [] fits)
