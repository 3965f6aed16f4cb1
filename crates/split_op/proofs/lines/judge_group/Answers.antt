use Rattle.std.proofs.Common.{ap}
use Rattle.split_op.specs.declared.judged.Judged.{Judged}
use Rattle.split_op.specs.Labels.{rows_of}
use Rattle.split_op.proofs.Judging.{judged_lines, judged_clash}
use Rattle.split_op.proofs.lines.judge_group.Goals as goal

pub returns-in_ok-add_lines-in-Ok-clause-judged : goal.returns-in_ok-add_lines-in-Ok-clause-judged
returns-in_ok-add_lines-in-Ok-clause-judged g c = λ shape labels old new variable columns f h.
    let label = c.args.group.now.label in
    judged_lines shape variable labels label old new c.args.judged.now c.add_lines.new.self h c.in-Ok.lines.items (c.in-Ok.ensures.gives shape (rows_of label old) (rows_of label new) columns f) c.in_ok-add_lines-in-Ok.ensures.lines c.in_ok-add_lines-in-Ok.ensures.clash

pub returns-in-Err-Conflict-clause-judged : goal.returns-in-Err-Conflict-clause-judged
returns-in-Err-Conflict-clause-judged g c = λ shape labels old new variable columns f h.
    let label = c.args.group.now.label in
    let stops = rw c.in-Err-Conflict.field-0-is at (c.in-Err-Conflict.ensures.stops shape (rows_of label old) (rows_of label new) columns f) in
    judged_clash shape variable labels label old new c.args.judged.now c.add_clash.new.self h c.in-Err-Conflict.clash stops.0 stops.1 (ap (λ (j : Judged). j.clash) c.add_clash.ensures)
