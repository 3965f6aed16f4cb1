use Rattle.std.proofs.Common.{◌∙◌, ⊎_elim, ap, sym, subst, map}
use Rattle.flow_law.specs.declared.refused.EvalFault.{EvalFault}
use Rattle.unfold_op.specs.Stopped.{StopsFor}
use Rattle.unfold_op.specs.FactMoves.{facts_in}
use Rattle.split_op.specs.LabelLines.{first_conflict, first_illegal_column}
use Rattle.split_op.specs.Groups.{group_label}
use Rattle.split_op.proofs.Judging.{none_judged}
use Rattle.split_op.proofs.lines.lines_of.Goals as goal

pub returns-in-Ok-clause-gives : goal.returns-in-Ok-clause-gives
returns-in-Ok-clause-gives g c = λ shape old new h.
    let e = c.in-Ok.ensures.lines in
    let judged = rw e.0 at c.judge_groups-outcome.ensures.judged in
    let j = judged shape old new h (none_judged shape (facts_in shape old) (facts_in shape new) c.new-judged.result c.new-judged.ensures.lines c.new-judged.ensures.clash) in
    record { legal = j.legal; clean = j.clash_is ∙ e.1; lines_are = ap (λ v. v.items) e.2 ∙ j.lines_are e.1 }

pub returns-in-Err-clause-stops : goal.returns-in-Err-clause-stops
returns-in-Err-clause-stops g c = λ shape old new h.
    let none = none_judged shape (facts_in shape old) (facts_in shape new) c.new-judged.result c.new-judged.ensures.lines c.new-judged.ensures.clash in
    ⊎_elim
    (λ e. let stops = rw e at c.judge_groups-outcome.ensures.stops in stops shape old new h none)
    (λ e.
    let judged = rw e.1 at c.judge_groups-outcome.ensures.judged in
    let j = judged shape old new h none in
    subst (λ (s : EvalFault). StopsFor (first_illegal_column shape.constants (facts_in shape new) (map group_label c.args.groups.now)) (first_conflict (facts_in shape new) (map group_label c.args.groups.now)) s) (sym e.3) (j.legal, j.clash_is ∙ e.2))
    c.in-Err.ensures.stops
