use Rattle.std.proofs.Common.{[], subst}
use Rattle.split_op.specs.Parts.{SameColumns}
use Rattle.split_op.proofs.part.fresh_lines.Goals as goal

pub inner_lines-requires : goal.inner_lines-requires
inner_lines-requires g c =
    let r = c.requires in
    let t = c.in_ok-inner.inner in
    let like = g.met.I.TableOperator.same_form c.args.pattern.now t c.in_ok-inner.ensures.alike in
    (r.0, [], r.1, record { columns = subst (SameColumns r.0) like r.2; keeps = g.met.I.TableOperator.keeps_facts t [] c.in_ok-inner.ensures.empty }, r.3)

pub returns-in-Ok-clause-gives : goal.returns-in-Ok-clause-gives
returns-in-Ok-clause-gives g c = λ shape new columns f.
    let t = c.in_ok-inner.inner in
    let like = g.met.I.TableOperator.same_form c.args.pattern.now t c.in_ok-inner.ensures.alike in
    c.in-Ok.ensures.gives shape [] new (record { columns = subst (SameColumns shape) like columns; keeps = g.met.I.TableOperator.keeps_facts t [] c.in_ok-inner.ensures.empty }) f

pub returns-clause-stops : goal.returns-clause-stops
returns-clause-stops g c = λ shape new columns f.
    let t = c.in_ok-inner.inner in
    let like = g.met.I.TableOperator.same_form c.args.pattern.now t c.in_ok-inner.ensures.alike in
    c.in-Err.ensures.stops shape [] new (record { columns = subst (SameColumns shape) like columns; keeps = g.met.I.TableOperator.keeps_facts t [] c.in_ok-inner.ensures.empty }) f
