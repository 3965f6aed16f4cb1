use Rattle.std.proofs.Common.{sym, subst}
use Rattle.flow_law.specs.Faults.{IsFaultOf}
use Rattle.unfold_op.specs.FactMoves.{facts_in}
use Rattle.split_op.specs.Tables.{ScriptLines}
use Rattle.split_op.specs.Splits.{SplitValue, KeepsSplit, CanPrepareSplit, IsSplitBound, part_of}
use Rattle.split_op.proofs.WholeTables.{script_law}
use Rattle.split_op.proofs.SplitKeeps.{moves_any}
use Rattle.split_op.proofs.split.SplitOperator.prepare.Goals as goal

pub moved_lines-requires : goal.moved_lines-requires
moved_lines-requires g c =
    let table = g.I.TableOperator.table in
    let ms = c.args.change.now in
    let can = subst (λ (u : SplitValue _). CanPrepareSplit table u ms) (sym c.self.view_is) c.requires in
    (c.self.inside.shape, can.old, can.new, moves_any table ms _ c.self.invariant.label c.self.invariant.columns can can.old can.new can.keeps can.moves)

pub returns-in-Ok-clause-gives : goal.returns-in-Ok-clause-gives
returns-in-Ok-clause-gives g c = λ old new k m.
    let table = g.I.TableOperator.table in
    let ms = c.args.change.now in
    let can = subst (λ (u : SplitValue _). CanPrepareSplit table u ms) (sym c.self.view_is) c.requires in
    let kept = subst (λ (u : SplitValue _). KeepsSplit table u old) (sym c.self.view_is) k in
    subst (λ (u : SplitValue _). ScriptLines u.shape c.in-Ok.lines.items (facts_in u.shape old) (facts_in u.shape new)) c.self.view_is
    (c.in-Ok.ensures.gives c.self.inside.shape old new (moves_any table ms _ c.self.invariant.label c.self.invariant.columns can old new kept m))

pub returns-in-Ok-clause-law : goal.returns-in-Ok-clause-law
returns-in-Ok-clause-law g c = λ old new k m.
    let table = g.I.TableOperator.table in
    let ms = c.args.change.now in
    let can = subst (λ (u : SplitValue _). CanPrepareSplit table u ms) (sym c.self.view_is) c.requires in
    let kept = subst (λ (u : SplitValue _). KeepsSplit table u old) (sym c.self.view_is) k in
    let script = subst (λ (u : SplitValue _). ScriptLines u.shape c.in-Ok.lines.items (facts_in u.shape old) (facts_in u.shape new)) c.self.view_is
    (c.in-Ok.ensures.gives c.self.inside.shape old new (moves_any table ms _ c.self.invariant.label c.self.invariant.columns can old new kept m)) in
    script_law c.args.self.now.shape (facts_in c.args.self.now.shape old) (facts_in c.args.self.now.shape new) c.in-Ok.lines.items script.lines_are

pub returns-in-Err-clause-stops : goal.returns-in-Err-clause-stops
returns-in-Err-clause-stops g c = λ old new k m.
    let table = g.I.TableOperator.table in
    let ms = c.args.change.now in
    let can = subst (λ (u : SplitValue _). CanPrepareSplit table u ms) (sym c.self.view_is) c.requires in
    let kept = subst (λ (u : SplitValue _). KeepsSplit table u old) (sym c.self.view_is) k in
    subst (λ (u : SplitValue _). IsFaultOf u.shape (facts_in u.shape new) c.in-Err.stop) c.self.view_is
    (c.in-Err.ensures.stops c.self.inside.shape old new (moves_any table ms _ c.self.invariant.label c.self.invariant.columns can old new kept m))

pub returns-in-Ok-clause-cost : goal.returns-in-Ok-clause-cost
returns-in-Ok-clause-cost g c = λ n b. c.in-Ok.ensures.cost n (subst (λ (u : SplitValue _). IsSplitBound (λ t. g.I.Operator.is_bound t tt) g.I.Kept.alike u.pattern (part_of u.parts) c.args.change.now n) (sym c.self.view_is) b)

pub returns-in-Err-clause-cost : goal.returns-in-Err-clause-cost
returns-in-Err-clause-cost g c = λ n b. c.in-Err.ensures.cost n (subst (λ (u : SplitValue _). IsSplitBound (λ t. g.I.Operator.is_bound t tt) g.I.Kept.alike u.pattern (part_of u.parts) c.args.change.now n) (sym c.self.view_is) b)
