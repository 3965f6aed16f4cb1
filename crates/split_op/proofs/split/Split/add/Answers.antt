use Rattle.std.proofs.Common.{sym, subst}
use Rattle.ss_text.specs.Texts.{text_eq}
use Rattle.indexmap.specs.IndexMap.{get}
use Rattle.flow_law.specs.Facts.{Fact}
use Rattle.split_op.specs.Labels.{rows_of}
use Rattle.split_op.specs.Splits.{SplitValue}
use Rattle.split_op.specs.Added.{CanAddSplit}
use Rattle.split_op.proofs.Adding.{can_add_own, kept_all}
use Rattle.split_op.proofs.split.Split.add.Goals as goal

pub add_fact-requires : goal.add_fact-requires
add_fact-requires g c =
    let table = g.I.TableOperator.table in
    let fact : Fact = record { label = c.args.label.now; key = c.args.key; cell = c.args.cell } in
    let r = c.requires in
    let h = subst (λ (u : SplitValue _). CanAddSplit table u fact r.0) (sym c.self.view_is) r.1 in
    (c.self.inside.shape, rows_of fact.label r.0, c.self.invariant.columns, can_add_own table _ fact r.0 h)

pub returns-clause-keeps : goal.returns-clause-keeps
returns-clause-keeps g c = λ rows own.
    let table = g.I.TableOperator.table in
    let shape = c.self.inside.shape in
    let fact : Fact = record { label = c.args.label.now; key = c.args.key; cell = c.args.cell } in
    let h = subst (λ (u : SplitValue _). CanAddSplit table u fact rows) (sym c.self.view_is) own in
    let added = c.in_ok-add_fact.ensures.added shape (rows_of fact.label rows) c.self.invariant.columns (can_add_own table _ fact rows h) in
    record { parts = kept_all table _ fact rows h (get text_eq c.add_fact.new.parts) added c.in_ok-add_fact.ensures.others; legal = h.can.legal; clean = h.can.clean }
