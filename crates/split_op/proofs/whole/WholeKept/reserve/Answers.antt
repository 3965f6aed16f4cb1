use Rattle.std.proofs.Common.{refl, subst}
use Rattle.flow_law.specs.declared.shape.Shape.{Shape}
use Rattle.flow_law.specs.Labelled.{AllBear}
use Rattle.unfold_op.specs.FactMoves.{facts_in}
use Rattle.split_op.proofs.FitMoves.{bears_one}
use Rattle.split_op.proofs.whole.WholeKept.reserve.Goals as goal

pub reserve-requires-clause-change : goal.reserve-requires-clause-change
reserve-requires-clause-change g c =
    let w = c.args.self.now in
    let t = g.I.TableOperator.table w.inner in
    let f = c.requires.fits in
    let b = c.requires.change in
    g.met.I.TableOperator.reserves w.inner c.args.change.now
    (bears_one t w.label c.args.change.now f.0 f.1 f.2.keeps (record { bear = f.2.bear; moved = b.bear; wide = b.wide; moves = f.3; few = f.4.can.few }))

pub reserve-requires-clause-fits : goal.reserve-requires-clause-fits
reserve-requires-clause-fits g c =
    let w = c.args.self.now in
    let f = c.requires.fits in
    (f.0, f.1, g.met.I.TableOperator.facts_kept w.inner f.0 f.2.keeps, f.3, g.met.I.TableOperator.can_be_kept w.inner f.1 f.4.can)

pub returns-clause-keeps : goal.returns-clause-keeps
returns-clause-keeps g c = λ x h.
    let w = c.args.self.now in
    let inner = c.reserve.new.self in
    record {
      legal = h.legal;
      keeps = g.met.I.TableOperator.keeps_facts inner x (c.reserve.ensures.keeps x (g.met.I.TableOperator.facts_kept w.inner x h.keeps));
      bear = subst (λ (v : Shape). AllBear w.label (facts_in v x)) (g.met.I.TableOperator.same_form w.inner inner c.reserve.ensures.alike) h.bear;
    }

pub returns-clause-alike : goal.returns-clause-alike
returns-clause-alike g c = (refl, g.met.I.TableOperator.same_form c.args.self.now.inner c.reserve.new.self c.reserve.ensures.alike)
