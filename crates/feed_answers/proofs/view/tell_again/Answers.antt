use Rattle.std.proofs.Common.{◌∙◌, sym}
use Rattle.feed_answers.proofs.TellLemmas.{script_does, refusal_does}
use Rattle.feed_answers.proofs.view.tell_again.Goals as goal

pub returns-in-Ok-clause-does : goal.returns-in-Ok-clause-does
returns-in-Ok-clause-does g c = λ s.
    script_does _ _ _ _ c.args.view.now c.args.handled.now (rw (c.source.ensures, c.number.ensures) at (c.in_ok-print_reply.ensures.does s)) c.in-Ok.script.now
    (sym c.in_ok-reply.ensures ∙ c.in-Ok.ensures) (c.print_script.ensures.does s)

pub returns-clause-does : goal.returns-clause-does
returns-clause-does g c = λ s.
    refusal_does _ _ _ _ c.args.view.now c.args.handled.now (rw (c.source.ensures, c.number.ensures) at (c.in_ok-print_reply.ensures.does s)) c.in-Err.refused.now c.in_ok-fields-in-Err.fields
    (sym c.in_ok-reply.ensures ∙ c.in-Err.ensures) (rw c.in_ok-change-in-Err.ensures at c.in_ok-fields-in-Err.ensures) (c.refuse.ensures.does s)
