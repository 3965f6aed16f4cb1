use Rattle.std.proofs.Common.{◌∙◌, ap}
use Rattle.stack_answers.specs.Stack.{StackState}
use Rattle.stack_answers.specs.Held.{held_in}
use Rattle.stack_answers.proofs.StackLemmas.{taken_alone, taken_lines, taken_unrefused, taken_refused}
use Rattle.stack_answers.proofs.open_stack.OpenStack.take.Goals as goal

pub returns-in-Ok-clause-lines : goal.returns-in-Ok-clause-lines
returns-in-Ok-clause-lines g c =
    let inside = c.self.inside in
    rw (← c.self.view_is) (taken_lines inside.levels c.args.changes.now (held_in inside.draft) inside.some_refused inside.broken c.in-Ok.all.items c.in-Ok.ensures.lines)

pub returns-in-Ok-clause-unrefused : goal.returns-in-Ok-clause-unrefused
returns-in-Ok-clause-unrefused g c =
    let inside = c.self.inside in
    rw (← c.self.view_is) (taken_unrefused inside.levels c.args.changes.now (held_in inside.draft) inside.some_refused inside.broken c.in-Ok.ensures.unrefused)

pub returns-in-Ok-clause-stack : goal.returns-in-Ok-clause-stack
returns-in-Ok-clause-stack g c =
    let inside = c.self.inside in
    let closed = ap (λ (s : StackState). s.held) c.self.view_is ∙ c.requires.closed in
    rw (← c.self.view_is) (taken_alone inside.levels c.apply.new.self c.args.changes.now c.in-Ok.all.items (held_in inside.draft) inside.some_refused inside.broken closed c.in-Ok.ensures.taken c.in-Ok.ensures.lines)

pub returns-in-Err-clause-refused : goal.returns-in-Err-clause-refused
returns-in-Err-clause-refused g c =
    let inside = c.self.inside in
    rw (← c.self.view_is) (taken_refused inside.levels c.args.changes.now (held_in inside.draft) inside.some_refused inside.broken c.in-Err.refused c.in-Err.ensures.refused)
