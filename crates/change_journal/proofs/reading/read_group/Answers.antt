use Rattle.change_journal.proofs.GroupLemmas.{line_read, line_refused, last_read, last_refused}
use Rattle.change_journal.proofs.reading.read_group.Goals as goal

pub loop-line-preserved : goal.loop-line-preserved
loop-line-preserved c =
    line_read c.loop-line.rest.now c.in-Some.line.now c.in-Some.after.now c.in-Some.ensures.0 c.in-Some.ensures.1 c.args.text.now c.loop-line.changes.items c.push.new.self.items c.in-Some-2.change
    (cc (c.in-Some-2.is, c.in_ok-change.ensures)) c.loop-line.invariant c.in_ok-push-in-Some-2.ensures.items

pub returns-in-None : goal.returns-in-None
returns-in-None c =
    line_refused c.loop-line.rest.now c.in-Some.line.now c.in-Some.after.now c.in-Some.ensures.0 c.in-Some.ensures.1 c.args.text.now c.loop-line.changes.items
    (cc (c.in-None.is, c.in_ok-change.ensures)) c.loop-line.invariant

pub returns-in-None-2 : goal.returns-in-None-2
returns-in-None-2 c =
    last_refused c.loop-line.rest.now c.in_default.ensures c.args.text.now c.loop-line.changes.items (cc (c.in-None-2.is, c.in_ok-change-2.ensures)) c.loop-line.invariant

pub returns : goal.returns
returns c =
    last_read c.loop-line.rest.now c.in_default.ensures c.args.text.now c.loop-line.changes.items c.push-in-Some-3.new.self.items c.in-Some-3.change
    (cc (c.in-Some-3.is, c.in_ok-change-2.ensures)) c.loop-line.invariant c.in_ok-push-in-Some-3.ensures.items
