use Rattle.std.proofs.Common.{◌≡◌, ◌≤◌, ◌<◌, ◌+◌, ◌^◌, ◌∙◌, List, ap, sym, subst}
use Rattle.operator_law.specs.declared.delta.Signed.{Signed}
use Rattle.unfold_op.specs.Moves.{AreNets}
use Rattle.unfold_op.specs.FactMoves.{facts_in, fact_moves}
use Rattle.unfold_op.specs.OneTables.{label_for}
use Rattle.unfold_op.specs.TableFields.{seen, ups, downs}
use Rattle.unfold_op.proofs.Changes.{is_change, enough, small}
use Rattle.unfold_op.proofs.Answered.{is_ready}
use Rattle.unfold_op.proofs.one_table.OneTable.reserve.Goals as goal

pub total_after-total-requires-clause-enough : goal.total_after-total-requires-clause-enough
total_after-total-requires-clause-enough c =
    let t = seen c.args.self.now in
    let fits = c.requires.fits in
    subst (λ (ns : List Signed). downs ns ≤ t.total + ups ns) (sym (c.deref-2.ensures.value ∙ c.change.view_is)) (enough t c.args.change.now fits.0 fits.1 fits.2 fits.3)

pub total_after-total-requires-clause-small : goal.total_after-total-requires-clause-small
total_after-total-requires-clause-small c =
    let t = seen c.args.self.now in
    let fits = c.requires.fits in
    subst (λ (ns : List Signed). t.total + ups ns < 2 ^ 128 + downs ns) (sym (c.deref-2.ensures.value ∙ c.change.view_is)) (small t c.args.change.now fits.0 fits.1 fits.2 fits.3 fits.4.few)

pub reserve-requires : goal.reserve-requires
reserve-requires c =
    let t = seen c.args.self.now in
    let ms = c.args.change.now in
    let fits = c.requires.fits in
    let nets = subst (λ (ns : List Signed). AreNets c.in_ok-nets.nets (fact_moves t.shape ns)) (c.deref-3.ensures.value ∙ c.change.view_is) c.in_ok-nets.ensures in
    (label_for t.shape t.label ms, t.shape.constants, fact_moves t.shape ms, facts_in t.shape fits.0, facts_in t.shape fits.1, is_change t ms c.requires.change fits.0 fits.1 fits.2 fits.3 c.in_ok-nets.nets fits.4.few nets, fits.4.clean)

pub returns-clause-whole : goal.returns-clause-whole
returns-clause-whole c =
    let t = seen c.args.self.now in
    let ms = c.args.change.now in
    let nets = subst (λ (ns : List Signed). AreNets c.in_ok-nets.nets (fact_moves t.shape ns)) (c.deref-3.ensures.value ∙ c.change.view_is) c.in_ok-nets.ensures in
    let label = c.in_ok-label.ensures ∙ c.label_for.ensures ∙ ap (λ (ns : List Signed). label_for t.shape t.label ns) (c.deref.ensures.value ∙ c.change.view_is) in
    let total = subst (λ (ns : List Signed). t.total + ups ns ≡ c.total_after-total.result + downs ns) (c.deref-2.ensures.value ∙ c.change.view_is) c.total_after-total.ensures in
    record {
      variable = c.requires.whole.variable;
      ready = λ w is. is_ready t.shape c.reserve.new.counts t.label t.total (record { of = c.of.result; counts = c.in_ok-counts.counts; label = c.in_ok-label.label; total = c.total_after-total.result }) w ms is c.of.ensures c.in_ok-nets.nets nets c.in_ok-counts.ensures.ready c.in_ok-counts.ensures.room c.requires.change label total;
    }
