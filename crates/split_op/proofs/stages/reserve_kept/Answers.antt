use Rattle.std.proofs.Common.{Option, refl, sym, subst, IsSome}
use Rattle.ss_text.specs.Texts.{text_eq}
use Rattle.indexmap.specs.IndexMap.{get}
use Rattle.split_op.specs.Parts.{SameColumns, KeepsPart}
use Rattle.split_op.proofs.Columns.{fits_columns, can_keep_columns}
use Rattle.split_op.proofs.FitMoves.{bears_one}
use Rattle.split_op.proofs.PartMoves.{parts_stay}
use Rattle.split_op.proofs.stages.reserve_kept.Goals as goal

pub reserve-requires-clause-change : goal.reserve-requires-clause-change
reserve-requires-clause-change g c =
    let r = c.requires in
    let t = c.in-Some.inner.now in
    let one = g.I.TableOperator.table t in
    let ms = c.args.group.now.moves in
    let label = c.args.group.now.label in
    let kept = subst (λ (o : Option _). KeepsPart g.I.TableOperator.table r.0 o r.1) (sym c.in-Some.ensures.value) r.3.keeps in
    g.met.I.TableOperator.reserves t ms (bears_one one label ms r.1 r.2 kept.0.keeps (fits_columns r.0 one.shape kept.0.columns label r.1 r.2 ms r.3.fits))

pub reserve-requires-clause-fits : goal.reserve-requires-clause-fits
reserve-requires-clause-fits g c =
    let r = c.requires in
    let t = c.in-Some.inner.now in
    let kept = subst (λ (o : Option _). KeepsPart g.I.TableOperator.table r.0 o r.1) (sym c.in-Some.ensures.value) r.3.keeps in
    (r.1, r.2, g.met.I.TableOperator.facts_kept t r.1 kept.0.keeps, r.3.fits.moves, g.met.I.TableOperator.can_be_kept t r.2 (can_keep_columns r.0 (g.I.TableOperator.table t).shape kept.0.columns r.2 r.4))

pub returns-in_ok-ready-in-Some-clause-same : goal.returns-in_ok-ready-in-Some-clause-same
returns-in_ok-ready-in-Some-clause-same g c = λ shape q rows h.
    let t = c.in-Some.inner.now in
    let u = c.reserve.new.self in
    let was = sym c.in-Some.ensures.value in
    let now = (c.get_mut.follows.holds u).3 (subst IsSome c.in-Some.ensures.value refl) in
    parts_stay g.I.TableOperator.table shape (get text_eq c.args.parts.now) (get text_eq (c.get_mut.follows.lender u)) c.args.group.now.label t u was now.1 now.2
    (λ xs k. record { columns = subst (SameColumns shape) (g.met.I.TableOperator.same_form t u c.reserve.ensures.alike) k.columns; keeps = g.met.I.TableOperator.keeps_facts u xs (c.reserve.ensures.keeps xs (g.met.I.TableOperator.facts_kept t xs k.keeps)) })
    q rows h

pub returns-in_err-ready-in-Some-clause-same : goal.returns-in_err-ready-in-Some-clause-same
returns-in_err-ready-in-Some-clause-same g c = λ shape q rows h.
    let t = c.in-Some.inner.now in
    let u = c.reserve.new.self in
    let was = sym c.in-Some.ensures.value in
    let now = (c.get_mut.follows.holds u).3 (subst IsSome c.in-Some.ensures.value refl) in
    parts_stay g.I.TableOperator.table shape (get text_eq c.args.parts.now) (get text_eq (c.get_mut.follows.lender u)) c.args.group.now.label t u was now.1 now.2
    (λ xs k. record { columns = subst (SameColumns shape) (g.met.I.TableOperator.same_form t u c.reserve.ensures.alike) k.columns; keeps = g.met.I.TableOperator.keeps_facts u xs (c.reserve.ensures.keeps xs (g.met.I.TableOperator.facts_kept t xs k.keeps)) })
    q rows h
