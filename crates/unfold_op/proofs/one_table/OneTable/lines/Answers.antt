use Rattle.std.proofs.Common.{◌≡◌, ◌≤◌, ◌<◌, ◌+◌, ◌^◌, ◌∙◌, List, ap, sym, subst}
use Rattle.std.specs.Prelude.{nat_lt}
use Rattle.ss_text.specs.Texts.{Text}
use Rattle.flow_law.specs.FactTables.{fact_table}
use Rattle.flow_law.specs.Script.{lines_between}
use Rattle.operator_law.specs.declared.delta.Signed.{Signed}
use Rattle.unfold_op.specs.FactMoves.{facts_in}
use Rattle.unfold_op.specs.OneTables.{framed, label_for}
use Rattle.unfold_op.specs.TableFields.{seen, ups, downs}
use Rattle.unfold_op.proofs.Changes.{enough, small}
use Rattle.unfold_op.proofs.Answered.{lines_are, law_holds}
use Rattle.unfold_op.proofs.one_table.OneTable.lines.Goals as goal

pub total_after-after-requires-clause-enough : goal.total_after-after-requires-clause-enough
total_after-after-requires-clause-enough c =
    let t = seen c.args.self.now in
    let can = c.requires.can in
    subst (λ (ns : List Signed). downs ns ≤ t.total + ups ns) (sym (c.deref-2.ensures.value ∙ c.change.view_is)) (enough t c.args.change.now can.old can.new can.keeps can.moves)

pub total_after-after-requires-clause-small : goal.total_after-after-requires-clause-small
total_after-after-requires-clause-small c =
    let t = seen c.args.self.now in
    let can = c.requires.can in
    subst (λ (ns : List Signed). t.total + ups ns < 2 ^ 128 + downs ns) (sym (c.deref-2.ensures.value ∙ c.change.view_is)) (small t c.args.change.now can.old can.new can.keeps can.moves can.few)

pub returns-in_ok-all-in-Ok-clause-law : goal.returns-in_ok-all-in-Ok-clause-law
returns-in_ok-all-in-Ok-clause-law c =
    let t = seen c.args.self.now in
    let ms = c.args.change.now in
    let moved = c.deref-2.ensures.value ∙ c.change.view_is in
    let label = c.label_for-label.ensures ∙ ap (λ (ns : List Signed). label_for t.shape t.label ns) (c.deref.ensures.value ∙ c.change.view_is) in
    let after = c.total_after-after.result in
    let counted = subst (λ (ns : List Signed). t.total + ups ns ≡ after + downs ns) moved c.total_after-after.ensures in
    let put = c.in_ok-all-in-Ok.ensures ∙ ap (λ (l : Text). framed l (nat_lt 0 t.total) (nat_lt 0 after) c.in-Ok.lines.items) label in
    law_holds t ms after counted c.in-Ok.lines.items c.in_ok-all-in-Ok.all.items put c.requires.whole.variable c.requires.can
    (λ old new h moves. c.in-Ok.ensures.lines old new h moves ∙ ap (λ (l : Text). lines_between l (fact_table (facts_in t.shape old)) (fact_table (facts_in t.shape new))) label)

pub returns-in_ok-all-in-Ok-clause-gives : goal.returns-in_ok-all-in-Ok-clause-gives
returns-in_ok-all-in-Ok-clause-gives c = λ old new h moves.
    let t = seen c.args.self.now in
    let ms = c.args.change.now in
    let moved = c.deref-2.ensures.value ∙ c.change.view_is in
    let label = c.label_for-label.ensures ∙ ap (λ (ns : List Signed). label_for t.shape t.label ns) (c.deref.ensures.value ∙ c.change.view_is) in
    let after = c.total_after-after.result in
    let counted = subst (λ (ns : List Signed). t.total + ups ns ≡ after + downs ns) moved c.total_after-after.ensures in
    let put = c.in_ok-all-in-Ok.ensures ∙ ap (λ (l : Text). framed l (nat_lt 0 t.total) (nat_lt 0 after) c.in-Ok.lines.items) label in
    record {
      legal = c.in-Ok.ensures.legal old new h moves;
      clean = c.in-Ok.ensures.clean old new h moves;
      lines_are = lines_are t ms after counted c.in-Ok.lines.items c.in_ok-all-in-Ok.all.items put old new h moves (c.in-Ok.ensures.lines old new h moves ∙ ap (λ (l : Text). lines_between l (fact_table (facts_in t.shape old)) (fact_table (facts_in t.shape new))) label);
    }
