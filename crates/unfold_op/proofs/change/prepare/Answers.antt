use Rattle.std.proofs.Common.{◌∙◌, sym}
use Rattle.unfold_op.proofs.CountLemmas.{can_move_all}
use Rattle.unfold_op.proofs.Prepared.{illegal_is, clash_is, lines_are}
use Rattle.unfold_op.proofs.change.prepare.Goals as goal

pub net_lines-requires : goal.net_lines-requires
net_lines-requires c = can_move_all c.args.counts.now c.args.nets.now c.args.label.now c.args.constants.now c.requires.0 c.requires.1 c.requires.2 c.requires.3

pub returns-in-Err-clause-stops : goal.returns-in-Err-clause-stops
returns-in-Err-clause-stops c = λ ms old new h.
    rw (illegal_is c.args.counts.now c.args.nets.now c.args.label.now c.args.constants.now ms old new h, clash_is c.args.counts.now c.args.nets.now c.args.label.now c.args.constants.now ms old new h) at c.in-Err.ensures.err

pub returns-in-Ok-clause-legal : goal.returns-in-Ok-clause-legal
returns-in-Ok-clause-legal c = λ ms old new h. sym (illegal_is c.args.counts.now c.args.nets.now c.args.label.now c.args.constants.now ms old new h) ∙ c.in-Ok.ensures.legal

pub returns-in-Ok-clause-clean : goal.returns-in-Ok-clause-clean
returns-in-Ok-clause-clean c = λ ms old new h. sym (clash_is c.args.counts.now c.args.nets.now c.args.label.now c.args.constants.now ms old new h) ∙ c.in-Ok.ensures.none

pub returns-in-Ok-clause-lines : goal.returns-in-Ok-clause-lines
returns-in-Ok-clause-lines c = λ ms old new h. c.in-Ok.ensures.ok ∙ lines_are c.args.counts.now c.args.nets.now c.args.label.now c.args.constants.now ms old new h c.in-Ok.ensures.none
