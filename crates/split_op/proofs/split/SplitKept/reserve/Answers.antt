use Rattle.std.proofs.Common.{sym, subst}
use Rattle.split_op.specs.Labels.{rows_of}
use Rattle.split_op.specs.Splits.{SplitValue, KeepsSplit, CanKeepSplit, AreWide}
use Rattle.split_op.proofs.SplitMoves.{can_keep_label}
use Rattle.split_op.proofs.split.SplitKept.reserve.Goals as goal

pub moved_stages-requires : goal.moved_stages-requires
moved_stages-requires g c =
    let table = g.I.TableOperator.table in
    let f = c.requires.fits in
    let kept = subst (λ (u : SplitValue _). KeepsSplit table u f.0) (sym c.self.view_is) f.2 in
    let can = subst (λ (u : SplitValue _). CanKeepSplit u.shape f.1) (sym c.self.view_is) f.4 in
    let wide = subst (λ (u : SplitValue _). AreWide u.shape c.args.change.now) (sym c.self.view_is) c.requires.change in
    (c.self.inside.shape, f.0, f.1, record { label = c.self.invariant.label; columns = c.self.invariant.columns; keeps = kept; wide = wide; moves = f.3; few = λ label. (can_keep_label c.self.inside.shape f.1 can label).few }, can)

pub returns-in_err-stages-clause-keeps : goal.returns-in_err-stages-clause-keeps
returns-in_err-stages-clause-keeps g c = λ x k.
    let kept = subst (λ (u : SplitValue _). KeepsSplit g.I.TableOperator.table u x) (sym c.self.view_is) k in
    record { parts = λ q. c.moved_stages.ensures.same c.self.inside.shape q (rows_of q x) (kept.parts q); legal = kept.legal; clean = kept.clean }

pub returns-clause-keeps : goal.returns-clause-keeps
returns-clause-keeps g c = λ x k.
    let kept = subst (λ (u : SplitValue _). KeepsSplit g.I.TableOperator.table u x) (sym c.self.view_is) k in
    record { parts = λ q. c.moved_stages.ensures.same c.self.inside.shape q (rows_of q x) (kept.parts q); legal = kept.legal; clean = kept.clean }
