use Rattle.std.proofs.Common.{◌∙◌, List, subst}
use Rattle.operator_law.specs.declared.delta.Signed.{Signed}
use Rattle.unfold_op.specs.Moves.{AreNets}
use Rattle.unfold_op.specs.FactMoves.{facts_in, fact_moves}
use Rattle.unfold_op.specs.TableFields.{seen}
use Rattle.unfold_op.proofs.Changes.{changed_by}
use Rattle.unfold_op.proofs.one_table.OneTable.changed.Goals as goal

pub prepare-requires : goal.prepare-requires
prepare-requires c =
    let t = seen c.args.self.now in
    let ms = c.args.change.now in
    let can = c.requires.can in
    let nets = subst (λ (ns : List Signed). AreNets c.in_ok-nets.nets (fact_moves t.shape ns)) (c.deref.ensures.value ∙ c.change.view_is) c.in_ok-nets.ensures in
    (fact_moves t.shape ms, facts_in t.shape can.old, facts_in t.shape can.new, changed_by t ms can c.args.label.now c.requires.label c.in_ok-nets.nets nets can.old can.new can.keeps can.moves)

pub returns-in-Ok-clause-legal : goal.returns-in-Ok-clause-legal
returns-in-Ok-clause-legal c = λ old new h moves.
    let t = seen c.args.self.now in
    let ms = c.args.change.now in
    let nets = subst (λ (ns : List Signed). AreNets c.in_ok-nets.nets (fact_moves t.shape ns)) (c.deref.ensures.value ∙ c.change.view_is) c.in_ok-nets.ensures in
    c.in-Ok.ensures.legal (fact_moves t.shape ms) (facts_in t.shape old) (facts_in t.shape new) (changed_by t ms c.requires.can c.args.label.now c.requires.label c.in_ok-nets.nets nets old new h moves)

pub returns-in-Ok-clause-clean : goal.returns-in-Ok-clause-clean
returns-in-Ok-clause-clean c = λ old new h moves.
    let t = seen c.args.self.now in
    let ms = c.args.change.now in
    let nets = subst (λ (ns : List Signed). AreNets c.in_ok-nets.nets (fact_moves t.shape ns)) (c.deref.ensures.value ∙ c.change.view_is) c.in_ok-nets.ensures in
    c.in-Ok.ensures.clean (fact_moves t.shape ms) (facts_in t.shape old) (facts_in t.shape new) (changed_by t ms c.requires.can c.args.label.now c.requires.label c.in_ok-nets.nets nets old new h moves)

pub returns-in-Ok-clause-lines : goal.returns-in-Ok-clause-lines
returns-in-Ok-clause-lines c = λ old new h moves.
    let t = seen c.args.self.now in
    let ms = c.args.change.now in
    let nets = subst (λ (ns : List Signed). AreNets c.in_ok-nets.nets (fact_moves t.shape ns)) (c.deref.ensures.value ∙ c.change.view_is) c.in_ok-nets.ensures in
    c.in-Ok.ensures.lines (fact_moves t.shape ms) (facts_in t.shape old) (facts_in t.shape new) (changed_by t ms c.requires.can c.args.label.now c.requires.label c.in_ok-nets.nets nets old new h moves)

pub returns-clause-stops : goal.returns-clause-stops
returns-clause-stops c = λ old new h moves.
    let t = seen c.args.self.now in
    let ms = c.args.change.now in
    let nets = subst (λ (ns : List Signed). AreNets c.in_ok-nets.nets (fact_moves t.shape ns)) (c.deref.ensures.value ∙ c.change.view_is) c.in_ok-nets.ensures in
    c.in-Err.ensures.stops (fact_moves t.shape ms) (facts_in t.shape old) (facts_in t.shape new) (changed_by t ms c.requires.can c.args.label.now c.requires.label c.in_ok-nets.nets nets old new h moves)
